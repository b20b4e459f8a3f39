-- Proves that reading some rows and then the rest reads all rows (rows_both), so a loop may take them one by one or many at once. Each row takes a
-- byte, so their count is no greater than the place.
-- Assumes nothing.
use Prim.Native.Nat.{zero, suc, ℕ, ◌+◌, ◌-◌, ◌^◌, ◌<◌, ◌≤◌}
use mathlib.Core.List.{List, [], ◌∷◌, ◌++◌}
use mathlib.Core.Path.{◌≡◌, refl, sym, ap, ◌∙◌}
use native.Mathlib.Omega.{arith}
use lib.ListN.{length, set, length-append}
use lib.Seq.{length-sets}
use Rattle.papers.specs.Bounds.{max_columns}
use Rattle.papers.specs.Numbers.{onto, got, field}
use Rattle.papers.specs.Key.{rows_read_from}
use Rattle.list_laws.proofs.Stores.{sets-append}
use Rattle.bytes_laws.proofs.Fields as fields
use Rattle.bytes_laws.proofs.Fields.{then-got}
use Rattle.read_fields.proofs.Onto.{onto-nil, more}
use Rattle.read_rows.specs.Rows.{RowsRead}

-- ---- a row and the rows behind it

module _ (n b : ℕ) (s : List ℕ) (at : ℕ) where
  pub rows_none : (k : ℕ) → k ≡ 0 → rows_read_from n b k s at ≡ got [] at
  unfolding rows_read_from
  rows_none zero z = refl
  rows_none (suc k) z = absurd (omega arith)

  rows_next : (k : ℕ) {gap m : ℕ} → 0 < k → field 1 (n - b) s at ≡ got gap m
      → rows_read_from n b k s at ≡ onto ((b + gap) ∷ []) (rows_read_from n (b + gap) (k - 1) s m)
  unfolding rows_read_from
  rows_next zero z e = absurd (omega arith)
  rows_next (suc k) z e = let q : suc k - 1 ≡ k = omega arith in rw q (then-got _ e)

-- a row in its range is a number of 32 bits
pub row-narrow : {n last gap : ℕ} → n ≤ max_columns → last ≤ n → gap ≤ n - last → last + gap < 2 ^ 32
row-narrow few h g = omega arith

-- ---- rows read so far

-- no row is read yet
pub rows_start : (n : ℕ) (s : List ℕ) (j count at t : ℕ) (rows : List ℕ) → at ≤ length s → j ≤ n → RowsRead n s j count at t rows rows at j count t
rows_start n s j count at t rows h g =
    record { list = []; whole = onto-nil _; counted = omega arith; placed = omega arith; paced = omega arith; inside = h; high = g; kept = refl }

-- reads one row by its gap
pub rows-one : (n : ℕ) (s : List ℕ) (b left k t : ℕ) (rows : List ℕ) {gap m : ℕ} {rows' : List ℕ}
    → 0 < left → b ≤ n → field 1 (n - b) s k ≡ got gap m → rows' ≡ set rows t (b + gap)
    → RowsRead n s b left k t rows rows' m (b + gap) (left - 1) (t + 1)
rows-one n s b left k t rows {gap} {m} h g read e =
    let found = fields.field-got 1 (n - b) s k gap m read in
    let high = found.high in
    let on = found.on in
    record {
      list = (b + gap) ∷ [];
      whole = sym (rows_next n b s k left h read);
      counted = omega arith;
      placed = refl;
      paced = omega arith;
      inside = found.inside;
      high = omega arith;
      kept = e;
    }

-- rows are read, and more rows behind them
pub rows_both : {n : ℕ} {s : List ℕ} {j count at t k b left mid k' b' left' total : ℕ} {rows₀ rows rows' : List ℕ}
    → RowsRead n s j count at t rows₀ rows k b left mid → RowsRead n s b left k mid rows rows' k' b' left' total
    → RowsRead n s j count at t rows₀ rows' k' b' left' total
rows_both {t = t} {rows₀ = rows₀} x y =
    let p = x.list in
    let q = y.list in
    let e = length-append p q in
    let a = x.counted in
    let b = y.counted in
    let c = x.placed in
    let d = y.placed in
    let f = x.paced in
    let g = y.paced in
    record {
      list = p ++ q;
      whole = more p q _ x.whole (sym y.whole);
      counted = omega arith;
      placed = omega arith;
      paced = omega arith;
      inside = y.inside;
      high = y.high;
      kept = rw (sets-append p rows₀ t q, ← x.kept, ← c) y.kept;
    }

module _ {n : ℕ} {s : List ℕ} {j count at t : ℕ} {rows₀ rows : List ℕ} {k last left total : ℕ} (x : RowsRead n s j count at t rows₀ rows k last left
    total) where
  -- the slice keeps its length
  pub rows_long : length rows ≡ length rows₀
  rows_long = ap length x.kept ∙ length-sets rows₀ t x.list

  -- no more rows are left than the list has
  pub rows_few : left ≤ count
  rows_few = let e = x.counted in omega arith
