-- Proves how a slice gets the steps of the columns one after the other, and that the slices' numbers judge a column right.
-- Assumes nothing.
use Prim.Native.Nat.{ℕ, zero, suc, ◌+◌, ◌<◌, ◌≤◌}
use mathlib.Core.Path.{◌≡◌, sym, ap, ◌∙◌}
use mathlib.Core.Logic.{◌⊎◌, inl, inr, ◌≢◌}
use mathlib.Core.List.{List}
use native.Mathlib.Omega.{arith}
use native.Mathlib.Numerals.{add-one}
use lib.ListN.{length, get_or, set, length-set}
use lib.Seq.{get_or-set_same, get_or-set_other}
use Rattle.papers.specs.Bounds.{max_columns}
use Rattle.std.specs.Prelude.{Some, None}
use Rattle.refusals.specs.Answers.{place_if_any}
use Rattle.list_laws.proofs.Tests.{below_or}
use Rattle.list_laws.proofs.Members.{at_place}
use Rattle.order_laws.proofs.Steps.{column-at, one-step}
use Rattle.tree.specs.Parents.{parent_in}
use Rattle.tree.proofs.Children.{parent_is, parent-low}
use Rattle.check_subtrees.specs.Steps.{EachOnce, number_for}
use Rattle.check_subtrees.specs.Strays.{stray_step_of, PlacedAt}
use Rattle.check_subtrees.proofs.Judged.{stray-root, stray-late, stray-early, stray-none}

-- ---- the first k steps are written
pub record Writing (order steps : List ℕ) (k : ℕ) : Type 0 where
  pub done : (i : ℕ) → i < k → number_for steps (get_or order i 0) ≡ i + 1
  pub seen : k ≤ length order
  pub long : length steps ≡ length order + 1

module _ {order : List ℕ} (each : EachOnce (length order) order) where
  -- a step's column has a place in the slice
  pub column_fits : (k : ℕ) → k < length order → get_or order k 0 ≤ length order
  column_fits k h = (each.range (get_or order k 0) (at_place order k h)).1

  other : (i k : ℕ) → i < k → k < length order → get_or order i 0 ≢ get_or order k 0
  other i k l h e =
      absurd (omega (
        arith,
        one-step order each.once (suc i) (suc k) (omega arith) (omega arith) (omega arith) (omega arith)
            (column-at order i ∙ (e ∙ sym (column-at order k))),
      ))

  pub writing-turn : {steps : List ℕ} {k : ℕ} → Writing order steps k → k < length order → Writing order (set steps (get_or order k 0) (k + 1)) (k + 1)
  writing-turn {steps} {k} inv h =
      record { done = λ i l. go i (below_or i k) l; seen = omega arith; long = length-set steps (get_or order k 0) (k + 1) ∙ inv.long }
    where
      go : (i : ℕ) → (i < k) ⊎ (k ≤ i) → i < k + 1 → number_for (set steps (get_or order k 0) (k + 1)) (get_or order i 0) ≡ i + 1
      go i (inl l) u = get_or-set_other steps (get_or order k 0) (get_or order i 0) (k + 1) 0 (other i k l h) ∙ inv.done i l
      go i (inr l) u =
          let e : i ≡ k = omega arith in rw e (get_or-set_same steps (get_or order k 0) (k + 1) 0 (omega (arith, inv.long, column_fits k h)))

-- ---- the column at place i, and p its parent
module _ (parents steps below : List ℕ) (i : ℕ) where
  abbrev p : ℕ
  p = get_or parents i 0

  abbrev judged_as : ℕ
  judged_as = stray_step_of (parent_in parents) (number_for steps) (number_for below) (i + 1)

  above : parent_in parents (i + 1) ≡ p
  above = rw add-one (parent_is parents i)

  -- a step is a place; no step is none
  no-step : {x : ℕ} → 0 ≡ x → None ≡ place_if_any x
  no-step e = ap place_if_any e

  a-step : {x step : ℕ} → 1 ≤ step → step ≡ x → Some step ≡ place_if_any x
  a-step {step = zero} h e = absurd (omega arith)
  a-step {step = suc s} h e = ap place_if_any e

  pub root-judged : p ≡ 0 → None ≡ place_if_any judged_as
  root-judged z = no-step (stray-root (parent_in parents) (number_for steps) (number_for below) (i + 1) (above ∙ z))

  pub none-judged : p ≢ 0 → number_for steps (i + 1) ≤ number_for steps p
      → number_for steps p + number_for below (i + 1) ≤ number_for steps (i + 1) + number_for below p
      → None ≡ place_if_any judged_as
  none-judged z h k = no-step (rw above at (stray-none (parent_in parents) (number_for steps) (number_for below) (i + 1)) z h k)

  -- the parent's places are within the slices, and every sum fits
  pub record Fitting : Type 0 where
    pub step : p < length steps
    pub count : p < length below
    pub own : number_for steps (i + 1) + number_for below p ≤ max_columns + max_columns
    pub top : number_for steps p + number_for below (i + 1) ≤ max_columns + max_columns

  module _ (at : PlacedAt parents steps below i) (z : p ≢ 0) where
    low : p ≤ length parents
    low = parent-low parents at.placed.tree i

    from : 1 ≤ number_for steps p
    from = at.placed.steps_from p (omega arith) low

    pub late-judged : number_for steps p < number_for steps (i + 1) → Some (number_for steps p) ≡ place_if_any judged_as
    late-judged h = a-step from (rw above at (stray-late (parent_in parents) (number_for steps) (number_for below) (i + 1)) z h)

    pub early-judged : number_for steps (i + 1) ≤ number_for steps p
        → number_for steps (i + 1) + number_for below p < number_for steps p + number_for below (i + 1)
        → Some (number_for steps p) ≡ place_if_any judged_as
    early-judged h k = a-step from (rw above at (stray-early (parent_in parents) (number_for steps) (number_for below) (i + 1)) z h k)

    pub sums-fit : Fitting
    sums-fit =
        let placed = at.placed in
        let h = at.known in
        record {
          step = omega (arith, low, placed.steps-length);
          count = omega (arith, low, placed.below_length);
          own = omega (arith, placed.steps_low (i + 1) (omega arith) (omega arith), placed.below-low p (omega arith) low);
          top = omega (arith, placed.steps_low p (omega arith) low, placed.below-low (i + 1) (omega arith) (omega arith));
        }
