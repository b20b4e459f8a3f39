-- Proves that a column's list is its count, then its rows: the first number at fault is the list's fault, and rows read to the end are the list. If
-- the quick reader gives up, the other reader keeps its rows over those kept.
-- Assumes nothing.
use Prim.Native.Nat.{zero, suc, ℕ, ◌+◌, ◌-◌, ◌*◌, ◌^◌, ◌<◌}
use mathlib.Core.List.{List}
use mathlib.Core.Path.{◌≡◌, sym, ap, ◌∙◌}
use native.Mathlib.Omega.{arith}
use lib.ListN.{length}
use lib.Seq.{sets}
use mir.Facts.{Fits-of_lt}
use mir.Syntax.{w64}
use mir.Val.{Fits}
use Rattle.std.specs.Prelude.{Option, Some, Result, Ok, Err}
use Rattle.papers.specs.Numbers.{got, bad, field}
use Rattle.papers.specs.Key.{list_read_from, rows_read_from}
use Rattle.list_laws.proofs.Stores.{sets_over}
use Rattle.bytes_laws.proofs.Fields as fields
use Rattle.bytes_laws.proofs.Fields.{then-got, then-bad}
use Rattle.bytes_laws.proofs.Reaches.{rows-reach}
use Rattle.read_fields.proofs.Onto.{fails, ends}
use Rattle.read_fields.specs.Reading.{Told, PartFound}
use Rattle.refusals.specs.declared.Fault.{Fault}
use Rattle.read_rows.specs.Rows.{ListAsked, RowsAsked, RowsRead, QuickRead}
use Rattle.read_rows.proofs.Rows.{rows_none}
use Rattle.read_lists.specs.Lists.{RowsKept}

-- ---- the count and the rows behind it

module _ (n j : ℕ) (s : List ℕ) (at : ℕ) where
  pub list-bad : {c p : ℕ} → field 0 (n - j) s at ≡ bad c p → list_read_from n j s at ≡ bad c p
  unfolding list_read_from
  list-bad e = then-bad _ e

  pub list-got : {count m : ℕ} → field 0 (n - j) s at ≡ got count m → list_read_from n j s at ≡ rows_read_from n j count s m
  unfolding list_read_from
  list-got e = then-got _ e

-- the count is found, and its rows follow it
module _ {s : List ℕ} {at n j t count next : ℕ} (asked : ListAsked s at n j t) (found : fields.Found 0 (n - j) s at count next) where
  pub rows-asked : RowsAsked s next n j count t
  rows-asked =
      let few = asked.few in
      let behind = asked.behind in
      let on = found.on in
      let high = found.high in
      record { inside = found.inside; few = few; column = asked.column; behind = omega arith; counted = omega arith }

  pub rows-to-read : ListAsked s next n j t
  rows-to-read =
      let r = rows-asked in
      record { inside = r.inside; few = r.few; column = r.column; behind = r.behind }

  pub total-fits : length s * 1 < 2 ^ 63 → Fits w64 (t + count)
  total-fits room =
      let inside = asked.inside in
      let behind = asked.behind in
      let e : t + count < 2 ^ 64 = omega (arith, rows-asked.counted) in
      Fits-of_lt e

-- ---- rows read one by one

module _ (n b : ℕ) (s : List ℕ) (at : ℕ) where
  rows-bad : (k : ℕ) {c p : ℕ} → 0 < k → field 1 (n - b) s at ≡ bad c p → rows_read_from n b k s at ≡ bad c p
  unfolding rows_read_from
  rows-bad zero z e = absurd (omega arith)
  rows-bad (suc k) z e = then-bad _ e

module _ {n : ℕ} {s : List ℕ} {j count at t : ℕ} {rows₀ rows : List ℕ} {k last left total : ℕ} (x : RowsRead n s j count at t rows₀ rows k last left
    total) where
  pub rows-fault : {number place : ℕ} → 0 < left → field 1 (n - last) s k ≡ bad number place → rows_read_from n j count s at ≡ bad number place
  rows-fault h e = fails x.list x.whole (rows-bad n last s k left h e)

  pub rows-stop : left ≡ 0 → PartFound (λ list. t + length list) (RowsKept t rows₀ rows) (rows_read_from n j count s at) total k
  rows-stop z = record { part = x.list; read = ends x.list x.whole (rows_none n last s k left z); value = x.placed; kept = x.kept }

-- ---- rows read quickly

module _ {n : ℕ} {s : List ℕ} {j count at t : ℕ} {rows₀ rows : List ℕ} where
  pub quick-told : {next : ℕ} → QuickRead n s j count at t rows₀ rows (Some next)
      → PartFound (λ list. t + length list) (RowsKept t rows₀ rows) (rows_read_from n j count s at) (t + count) next
  quick-told q = record { part = q.list; read = q.whole; value = ap (λ (v : ℕ). t + v) (sym q.many); kept = q.kept }

  -- the other reader's rows overwrite those kept before
  pub quick-again : {q : Option ℕ} (rows' : List ℕ) (a : Result (ℕ × ℕ) Fault) → QuickRead n s j count at t rows₀ rows q
      → Told (λ list. t + length list) (RowsKept t rows rows') (rows_read_from n j count s at) a
      → Told (λ list. t + length list) (RowsKept t rows₀ rows') (rows_read_from n j count s at) a
  quick-again rows' (Err fault) q e = e
  quick-again rows' (Ok found) q e =
      let list = e.part in
      let l = (rows-reach n s j count at list found.1 e.read).0 in
      let f = q.few in
      record {
        part = list;
        read = e.read;
        value = e.value;
        kept = e.kept ∙ ap (λ (m : List ℕ). sets m t list) q.kept ∙ sets_over q.list list rows₀ t (omega arith);
      }
