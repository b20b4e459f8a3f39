-- Proves how rows are read quickly: short rows, and between them rows whose gaps have two groups, up to the list's end or to what the reader of lists
-- must read.
-- Assumes nothing.
use Prim.Native.Nat.{ℕ, ◌+◌, ◌-◌, ◌<◌, ◌≤◌}
use mathlib.Core.List.{List, ◌++◌}
use Rattle.std.specs.Prelude.{Some, None, Ok}
use mathlib.Core.Path.{◌≡◌, ap}
use mathlib.Core.Logic.{◌≢◌}
use native.Mathlib.Omega.{arith}
use lib.ListN.{length, set, length-append}
use Rattle.papers.specs.Numbers.{number_read_from, got, field}
use Rattle.list_laws.proofs.Stores.{sets-append}
use Rattle.bytes_laws.proofs.Fields as fields
use Rattle.read_fields.proofs.Answers.{field_is}
use Rattle.read_fields.proofs.Onto.{ends}
use Rattle.read_rows.specs.Rows.{RowsRead, ShortRead, QuickRead}
use Rattle.read_rows.proofs.Rows.{rows_none, rows-one, rows_both, rows_long}

module _ {n : ℕ} {s : List ℕ} {j count at t : ℕ} {rows₀ rows : List ℕ} {k last left total : ℕ} (x : RowsRead n s j count at t rows₀ rows k last left
    total) where
  pub quick-room : total < length rows → total < length rows₀
  quick-room e = let l = rows_long x in omega arith

  -- reads one more row, whose gap has two groups
  module _ {gap : ℕ} (two : (gap ≢ 0) × (Ok (gap, k + 2) ≡ number_read_from s k)) (most : gap ≤ n - last) where
    read : field 1 (n - last) s k ≡ got gap (k + 2)
    read = let some = two.0 in field_is 1 (n - last) s k two.1 (omega arith) most

    pub quick-found : fields.Found 1 (n - last) s k gap (k + 2)
    quick-found = fields.field-got 1 (n - last) s k gap (k + 2) read

    pub quick-turn : {row : ℕ} → 0 < left → row ≡ last + gap
        → RowsRead n s j count at t rows₀ (set rows total row) (k + 2) (last + gap) (left - 1) (total + 1)
    quick-turn h e = rows_both x (rows-one n s last left k total rows h x.high read (ap (set rows total) e))

  -- the rows that follow are out of their range
  pub quick-over : {rows' : List ℕ} {more row : ℕ} → ShortRead s last left k total rows rows' more row → QuickRead n s j count at t rows₀ rows' None
  quick-over y =
      let a = x.counted in
      let b = y.many in
      let d = y.few in
      record {
        list = x.list ++ y.list;
        few = omega (arith, length-append x.list y.list);
        kept = rw (sets-append x.list rows₀ t y.list, ← x.kept, ← x.placed) y.kept;
        whole = tt;
        many = tt;
      }

  -- all rows are read
  pub quick-stop : left ≡ 0 → QuickRead n s j count at t rows₀ rows (Some k)
  quick-stop z =
      let a = x.counted in
      record {
        list = x.list;
        few = omega arith;
        kept = x.kept;
        whole = ends x.list x.whole (rows_none n last s k left z);
        many = omega arith;
      }

  -- leaves the rest to the other reader
  pub quick-part : QuickRead n s j count at t rows₀ rows None
  quick-part =
      let a = x.counted in
      record { list = x.list; few = omega arith; kept = x.kept; whole = tt; many = tt }
