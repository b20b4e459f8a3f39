-- Proves the gaps of a list row by row: the rows from i on ascend above the row before them, so the next gap is the next row less that one.
-- Assumes nothing.
use Prim.Native.Nat.{ℕ, ◌+◌, ◌-◌, ◌*◌, ◌<◌, ◌≤◌}
use mathlib.Core.Path.{◌≡◌, refl}
use mathlib.Core.List.Memᴰ
use mathlib.Core.List.{List, [], ◌∷◌}
use native.Mathlib.Omega.{arith}
use native.Mathlib.Numerals.{add-one}
use lib.ListN.{length, get_or, take, length-take, drop_of_length-le}
use lib.Seq.{slice, slice-cons, length-slice}
use Rattle.papers.specs.Bounds.{max_columns, max_groups}
use Rattle.papers.specs.Lists.{◌∈◌, Asc}
use Rattle.papers.specs.Numbers.{bytes_of, encode}
use Rattle.papers.specs.Key.{gaps_of}
use Rattle.list_laws.specs.Wrote.{Wrote}
use Rattle.list_laws.proofs.Writing.{Writes, writes-all, writes-none}
use Rattle.bytes_laws.proofs.Gaps.{length-gaps}
use Rattle.bytes_laws.proofs.Writing.{encode-none, writes-number, writes-near}
use Rattle.write_gaps.specs.ListBetween.{ListBetween}

-- the rows from i up to `to` are left, and `before` is the row before them
pub record RowsLeft (rows : List ℕ) (to before i : ℕ) : Type 0 where
  pub inside : to ≤ length rows
  pub high : i ≤ to
  pub ascending : Asc before (slice i to rows)
  pub few : to - i ≤ max_columns
  pub within : (row : ℕ) → row ∈ slice i to rows → row ≤ max_columns

pub rows_all : {j : ℕ} {rows : List ℕ} {from to : ℕ} → ListBetween j rows from to → RowsLeft rows to j from
rows_all l = record { inside = l.inside; high = l.rises; ascending = l.ascending; few = l.few; within = l.within }

module _ {rows : List ℕ} {to before i row : ℕ} (l : RowsLeft rows to before i) (h : i < to) (e : row ≡ get_or rows i 0) where
  next_row : slice i to rows ≡ row ∷ slice (i + 1) to rows
  next_row = rw (add-one, e) (slice-cons i to rows 0 h l.inside)

  pub gaps-next : gaps_of before (slice i to rows) ≡ (row - before) ∷ gaps_of row (slice (i + 1) to rows)
  unfolding gaps_of
  gaps-next = rw next_row

  ascends : (before < row) × Asc row (slice (i + 1) to rows)
  ascends = let a : Asc before (row ∷ slice (i + 1) to rows) = rw next_row at l.ascending in a

  pub row-above : before < row
  row-above = ascends.0

  pub row_within : row ≤ max_columns
  row_within = l.within row (rw next_row (Memᴰ.head refl))

  pub rows_next : RowsLeft rows to row (i + 1)
  rows_next =
      let few = l.few in
      record {
        inside = l.inside;
        high = omega arith;
        ascending = ascends.1;
        few = omega arith;
        within = λ k m. l.within k (rw next_row (Memᴰ.tail m));
      }

pub gaps-none : {rows : List ℕ} {to before i : ℕ} → RowsLeft rows to before i → to ≤ i → gaps_of before (slice i to rows) ≡ []
unfolding gaps_of
gaps-none {rows} {to} {i = i} l h =
    let d : length (take to rows) ≤ i = rw length-take (omega arith) in
    rw (drop_of_length-le (take to rows) d)

-- ---- written

-- the gaps of the rows before i are written
pub record WritesRows (j : ℕ) (rows : List ℕ) (from to : ℕ) (d₀ : List ℕ) (first : ℕ) (d : List ℕ) (next before i : ℕ) : Type 0 where
  pub rows_left : RowsLeft rows to before i
  pub written : Writes (encode (gaps_of j (slice from to rows))) d₀ first (encode (gaps_of before (slice i to rows))) d next

pub gaps-start : {b : ℕ} {rows : List ℕ} {from to : ℕ} {d : List ℕ} {at : ℕ} → ListBetween b rows from to → WritesRows b rows from to d at d at b from
gaps-start l = record { rows_left = rows_all l; written = writes-all }

module _ {j : ℕ} {rows : List ℕ} {from to : ℕ} {d₀ : List ℕ} {first : ℕ} {d : List ℕ} {next before i : ℕ} (w : WritesRows j rows from to d₀ first d
    next before i) where
  -- the next place is close to the first
  pub place-near : ListBetween j rows from to → next ≤ first + max_groups * max_columns
  place-near l =
      let gaps = gaps_of j (slice from to rows) in
      omega (arith, l.few, writes-near gaps w.written, length-gaps j (slice from to rows), length-slice from to rows l.inside)

  pub write-turn : i < to → {row : ℕ} → row ≡ get_or rows i 0 → {m : ℕ} {d' : List ℕ} → Wrote (bytes_of (row - before)) d d' next m
      → WritesRows j rows from to d₀ first d' m row (i + 1)
  write-turn h e p = record { rows_left = rows_next w.rows_left h e; written = writes-number w.written (gaps-next w.rows_left h e) p }

  pub gaps-stop : to ≤ i → Wrote (encode (gaps_of j (slice from to rows))) d₀ d first next
  gaps-stop h = writes-none w.written (encode-none (gaps-none w.rows_left h))
