-- Proves that a list may be written run by run: the gaps of its first rows come first, and those of the rest follow, counted from the last of the
-- first rows.
-- Assumes nothing.
use Prim.Native.Nat.{ℕ, suc, ◌+◌, ◌-◌, ◌≤◌}
use mathlib.Core.Path.{◌≡◌, refl, sym, ap, ◌∙◌}
use mathlib.Core.List.Memᴰ
use mathlib.Core.List.{List, [], ◌∷◌, ◌++◌}
use native.Mathlib.Omega.{arith}
use lib.ListN.{length, get_or, take, drop}
use lib.Seq.{slice, length-slice, length-take-le, take-add, drop-append-le, drop_at, get_or-take, get_or-drop, slice-cons}
use Rattle.papers.specs.Lists.{Asc}
use Rattle.papers.specs.Numbers.{encode}
use Rattle.papers.specs.Key.{gaps_of}
use Rattle.list_laws.specs.Wrote.{Wrote}
use Rattle.bytes_laws.proofs.Writing.{writes-numbers}
use Rattle.write_gaps.specs.ListBetween.{ListBetween}
use Rattle.write_gaps.proofs.Rows.{RowsLeft, WritesRows}
use Rattle.write_lists.specs.Lists.{RunEnd}

-- the last row of a list, or for an empty list the row before it
abbrev last_of : ℕ → List ℕ → ℕ
last_of b [] = b
last_of b (x ∷ xs) = last_of x xs

-- the place of the last row
last-at : (b x : ℕ) (xs : List ℕ) → last_of b (x ∷ xs) ≡ get_or (x ∷ xs) (length xs) 0
last-at b x [] = refl
last-at b x (y ∷ ys) = last-at x y ys

-- the gaps, the order and the rows of two lists put together
gaps-append : (b : ℕ) (xs ys : List ℕ) → gaps_of b (xs ++ ys) ≡ gaps_of b xs ++ gaps_of (last_of b xs) ys
unfolding gaps_of
gaps-append b [] ys = refl
gaps-append b (x ∷ xs) ys = ap (λ (l : List ℕ). (x - b) ∷ l) (gaps-append x xs ys)

asc-parts : (b : ℕ) (xs ys : List ℕ) → Asc b (xs ++ ys) → Asc b xs × Asc (last_of b xs) ys
asc-parts b [] ys s = (tt, s)
asc-parts b (x ∷ xs) ys s = let (p, q) = asc-parts x xs ys s.1 in ((s.0, p), q)

slice_cut : (rows : List ℕ) (i e to : ℕ) → i ≤ e → e ≤ to → to ≤ length rows → slice i to rows ≡ slice i e rows ++ slice e to rows
slice_cut rows i e to a b h =
    let l : length (take e rows) ≡ e = length-take-le e rows (omega arith) in
    let n : e + (to - e) ≡ to = omega arith in
    let t : take to rows ≡ take e rows ++ take (to - e) (drop e rows) = ap (λ (k : ℕ). take k rows) (sym n) ∙ take-add e (to - e) rows in
    let r : slice e to rows ≡ take (to - e) (drop e rows) = ap (drop e) t ∙ drop_at (take e rows) (take (to - e) (drop e rows)) e l in
    ap (drop i) t ∙ drop-append-le i (take e rows) (take (to - e) (drop e rows)) (omega arith) ∙ ap (λ (s : List ℕ). slice i e rows ++ s) (sym r)

-- cuts the rows up to e off those from i on
module _ {rows : List ℕ} {to before i : ℕ} {e : ℕ} (l : RowsLeft rows to before i) (end : RunEnd i to e) where
  there : e ≤ length rows
  there = let n = l.inside in omega arith

  cut : slice i to rows ≡ slice i e rows ++ slice e to rows
  cut = slice_cut rows i e to (omega arith) end.within l.inside

  last_row : last_of before (slice i e rows) ≡ get_or rows (e - 1) 0
  last_row =
      let c : slice i e rows ≡ get_or rows i 0 ∷ slice (suc i) e rows = slice-cons i e rows 0 end.past there in
      let p : i + (e - suc i) ≡ e - 1 = omega arith in
      ap (last_of before) c ∙ last-at before (get_or rows i 0) (slice (suc i) e rows)
      ∙ rw (← c, length-slice (suc i) e rows there, get_or-drop i (take e rows) (e - suc i) 0, p, get_or-take e rows (e - 1) 0 (omega arith))

  ascends : Asc before (slice i e rows) × Asc (get_or rows (e - 1) 0) (slice e to rows)
  ascends = rw (← last_row) (asc-parts before (slice i e rows) (slice e to rows) (rw cut at l.ascending))

  pub gaps_cut : gaps_of before (slice i to rows) ≡ gaps_of before (slice i e rows) ++ gaps_of (get_or rows (e - 1) 0) (slice e to rows)
  gaps_cut = rw (cut, ← last_row) (gaps-append before (slice i e rows) (slice e to rows))

  pub run-list : ListBetween before rows i e
  run-list =
      let few = l.few in
      record {
        rises = omega arith;
        inside = there;
        ascending = ascends.0;
        few = omega arith;
        within = λ k m. l.within k (rw cut (Memᴰ.append_left (slice e to rows) m));
      }

  pub rows_cut : RowsLeft rows to (get_or rows (e - 1) 0) e
  rows_cut =
      let few = l.few in
      record {
        inside = l.inside;
        high = end.within;
        ascending = ascends.1;
        few = omega arith;
        within = λ k m. l.within k (rw cut (Memᴰ.append_right (slice i e rows) m));
      }

-- takes a run off a list that is being written
module _ {j : ℕ} {rows : List ℕ} {from to : ℕ} {d₀ : List ℕ} {first : ℕ} {d : List ℕ} {next before i : ℕ} (w : WritesRows j rows from to d₀ first d
    next before i)
    {e : ℕ} (end : RunEnd i to e) where
  pub run-turn : {row m : ℕ} {d' : List ℕ} → row ≡ get_or rows (e - 1) 0 → Wrote (encode (gaps_of before (slice i e rows))) d d' next m
      → WritesRows j rows from to d₀ first d' m row e
  run-turn q p =
      rw q (record {
        rows_left = rows_cut w.rows_left end;
        written = writes-numbers (gaps_of before (slice i e rows)) _ w.written (gaps_cut w.rows_left end) p;
      })
