-- Proves that the sum of the held updates' entries is small, since no update has more than a triangle of all columns; and that it is the sum of the
-- popped updates and of those that stay.
-- Assumes nothing.
use Prim.Native.Nat.{ℕ, zero, suc, ◌+◌, ◌*◌, ◌<◌, ◌≤◌}
use mathlib.Core.Path.{◌≡◌, refl}
use mathlib.Core.List.Memᴰ
use mathlib.Core.List.{List, [], ◌∷◌}
use native.Mathlib.Omega.{arith}
use lib.ListN.{length, take, drop}
use Rattle.papers.specs.Bounds.{max_columns, max_peak}
use Rattle.papers.specs.Lists.{◌∈◌, sum}
use Rattle.papers.specs.Job.{column_of}
use Rattle.papers.specs.Tree.{t}
use Rattle.papers.specs.Run.{entries, rows_in_factor}
use Rattle.order_laws.proofs.Triangles.{t-grows}
use Rattle.run_held.specs.declared.Held.{Held}
use Rattle.column_laws.specs.Tested.{Tested}
use Rattle.run_front.specs.Column.{Column}
use Rattle.run_front.proofs.Columns.{column_fits}
use Rattle.run_updates.specs.Kept.{held_in_order, factor_of, Kept}
use Rattle.run_updates.proofs.Stack.{held-length, held-each}

module _ (n : ℕ) (starts rows : List ℕ) where
  -- sums the entries of a list of columns
  abbrev pub total : List ℕ → ℕ
  total held = sum (entries (factor_of n starts rows) held)

  pub total-none : total [] ≡ 0
  unfolding sum entries
  total-none = refl

  pub total-cons : (c : ℕ) (held : List ℕ) → total (c ∷ held) ≡ t (length (column_of starts rows c)) + total held
  unfolding sum entries rows_in_factor
  total-cons c held = refl

  -- the sum is that of the popped updates and of those that stay
  pub total-parts : (p : ℕ) (held : List ℕ) → total (take p held) + total (drop p held) ≡ total held
  total-parts zero held = omega (arith, total-none)
  total-parts (suc p) [] = omega (arith, total-none)
  total-parts (suc p) (c ∷ held) = omega (arith, total-cons c (take p held), total-cons c held, total-parts p held)

  module _ (tested : Tested n starts rows) where
    -- no update has more entries than a triangle of so many columns
    pub update-small : {c : ℕ} → Column n c → t (length (column_of starts rows c)) ≤ t max_columns
    update-small {c} column =
        let few = tested.few in
        t-grows (length (column_of starts rows c)) max_columns (omega (arith, column_fits tested column))

    -- nor has the front, which has one row more
    pub front-small : {c : ℕ} → Column n c → t (suc (length (column_of starts rows c))) ≤ t max_columns
    front-small {c} column =
        let few = tested.few in
        let low = column.low in
        t-grows (suc (length (column_of starts rows c))) max_columns (omega (arith, column_fits tested column))

    total-each : (held : List ℕ) → ((c : ℕ) → c ∈ held → Column n c) → total held ≤ length held * t max_columns
    total-each [] h = omega (arith, total-none)
    total-each (c ∷ held) h =
        omega (arith, total-cons c held, update-small (h c (Memᴰ.head refl)), total-each held (λ d m. h d (Memᴰ.tail m)))

    -- all updates held together have few entries
    pub total-small : {stack : List ℕ} {held : Held} → Kept n starts rows stack held → total (held_in_order held.count stack) < max_peak
    unfolding t
    total-small {stack} {held} kept =
        let few = kept.few in
        let all = tested.few in
        omega (
          arith,
          held-length stack held.count,
          total-each (held_in_order held.count stack) (λ c m. held-each stack (Column n) held.count kept.columns c m),
        )

    -- so the popped updates have few entries too
    pub popped-small : {stack : List ℕ} {held : Held} → Kept n starts rows stack held → (p : ℕ) → total (take p (held_in_order held.count stack)) < max_peak
    popped-small {stack} {held} kept p = omega (arith, total-small kept, total-parts p (held_in_order held.count stack))
