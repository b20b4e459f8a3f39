-- Proves that the low bytes of gaps are the bytes of the gaps if the greatest gap is below 128, since each gap is then its own low byte. If it is
-- not, the bytes of the gaps are no fewer, so storing them overwrites every low byte.
-- Assumes nothing.
use Prim.Native.Nat.{ℕ, suc, ◌+◌, ◌-◌, ◌%◌, ◌<◌, ◌≤◌, max}
use mathlib.Core.Path.{◌≡◌, refl, ap, ◌∙◌}
use mathlib.Core.List.{List, [], ◌∷◌}
use native.Mathlib.Omega.{arith}
use lib.ListN.{length, get_or, set, length-append, length-set}
use lib.Seq.{slice, length-slice}
use Rattle.papers.specs.Lists.{largest}
use Rattle.papers.specs.Numbers.{bytes_of, encode}
use Rattle.papers.specs.Key.{gaps_of}
use Rattle.list_laws.specs.Wrote.{Wrote}
use Rattle.list_laws.proofs.Stores.{sets_over}
use Rattle.list_laws.proofs.Writing.{wrote-byte, Writes, writes-all, writes-part, writes-none}
use Rattle.bytes_laws.proofs.Gaps.{length-gaps}
use Rattle.bytes_laws.proofs.Numbers.{bytes-length}
use Rattle.groups.proofs.Written.{bytes_small}
use Rattle.write_gaps.specs.ListBetween.{ListBetween, ListFits}
use Rattle.write_gaps.specs.LowBytes.{low_bytes, LowsStored}
use Rattle.write_gaps.proofs.Rows.{RowsLeft, rows_all, rows_next, gaps-next, gaps-none}

length-lows : (xs : List ℕ) → length (low_bytes xs) ≡ length xs
unfolding low_bytes
length-lows [] = refl
length-lows (x ∷ xs) = ap suc (length-lows xs)

-- each number has at least one byte
encode-long : (xs : List ℕ) → length xs ≤ length (encode xs)
unfolding encode
encode-long [] = omega arith
encode-long (x ∷ xs) = omega (arith, encode-long xs, (bytes-length x).0, length-append (bytes_of x) (encode xs))

-- below 128 a number is its low byte
lows-small : (xs : List ℕ) → largest xs < 128 → low_bytes xs ≡ encode xs
unfolding low_bytes largest encode
lows-small [] h = refl
lows-small (x ∷ xs) h =
    let low : x % 256 ≡ x = omega arith in
    rw (low, bytes_small x (omega arith), lows-small xs (omega arith))

-- ---- row by row

-- the low bytes of the gaps before i are stored, and widest is the greatest of these gaps
pub record Lows (b : ℕ) (rows : List ℕ) (from to : ℕ) (d₀ : List ℕ) (at : ℕ) (d : List ℕ) (widest before next i : ℕ) : Type 0 where
  pub rows_left : RowsLeft rows to before i
  pub written : Writes (low_bytes (gaps_of b (slice from to rows))) d₀ at (low_bytes (gaps_of before (slice i to rows))) d next
  pub wide : max widest (largest (gaps_of before (slice i to rows))) ≡ largest (gaps_of b (slice from to rows))
  pub fits : next + (to - i) ≤ length d

pub lows-start : {b : ℕ} {rows : List ℕ} {from to : ℕ} {d : List ℕ} {at : ℕ} → ListFits rows from to b d at → Lows b rows from to d at d 0 b at from
lows-start p = record { rows_left = rows_all p.list; written = writes-all; wide = omega arith; fits = p.fits }

module _ {b : ℕ} {rows : List ℕ} {from to : ℕ} {d₀ : List ℕ} {at : ℕ} {d : List ℕ} {widest before next i : ℕ}
    (s : Lows b rows from to d₀ at d widest before next i) where
  pub lows-turn : i < to → {row : ℕ} → row ≡ get_or rows i 0 → {m : ℕ} → m ≡ max widest (row - before)
      → Lows b rows from to d₀ at (set d next ((row - before) % 256)) m row (next + 1) (i + 1)
  unfolding low_bytes largest
  lows-turn h {row} e f =
      let g = gaps-next s.rows_left h e in
      let fits = s.fits in
      let wide : max widest (max (row - before) (largest (gaps_of row (slice (i + 1) to rows)))) ≡ largest (gaps_of b (slice from to rows)) = rw g at
      s.wide in
      record {
        rows_left = rows_next s.rows_left h e;
        written = writes-part s.written wrote-byte (ap low_bytes g);
        wide = omega arith;
        fits = omega (arith, length-set d next ((row - before) % 256));
      }

  pub lows-stop : to ≤ i → LowsStored (gaps_of b (slice from to rows)) d₀ d at widest
  unfolding low_bytes largest
  lows-stop h =
      let g = gaps-none s.rows_left h in
      let wide : max widest 0 ≡ largest (gaps_of b (slice from to rows)) = rw g at s.wide in
      record { widest = omega arith; stores = (writes-none s.written (ap low_bytes g)).writes }

-- ---- a run of rows

module _ {b : ℕ} {rows : List ℕ} {from to : ℕ} (l : ListBetween b rows from to) where
  run_length : length (gaps_of b (slice from to rows)) ≡ to - from
  run_length = length-gaps b (slice from to rows) ∙ length-slice from to rows l.inside

  module _ {d₀ : List ℕ} {at : ℕ} {d : List ℕ} {widest : ℕ} (low : LowsStored (gaps_of b (slice from to rows)) d₀ d at widest) where
    -- each gap has one byte
    pub run_short : widest < 128 → Wrote (encode (gaps_of b (slice from to rows))) d₀ d at (at + (to - from))
    run_short h =
        let same = lows-small (gaps_of b (slice from to rows)) (omega (arith, low.widest)) in
        record {
          place = omega (arith, run_length, ap length same, length-lows (gaps_of b (slice from to rows)));
          writes = rw same at low.stores;
        }

    -- writes the gaps over their low bytes
    pub run-over : {d' : List ℕ} {r : ℕ} → Wrote (encode (gaps_of b (slice from to rows))) d d' at r
        → Wrote (encode (gaps_of b (slice from to rows))) d₀ d' at r
    run-over p =
        let gaps = gaps_of b (slice from to rows) in
        let shorter : length (low_bytes gaps) ≤ length (encode gaps) = omega (arith, length-lows gaps, encode-long gaps) in
        record { place = p.place; writes = p.writes ∙ rw low.stores (sets_over (low_bytes gaps) (encode gaps) d₀ at shorter) }
