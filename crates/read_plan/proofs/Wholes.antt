-- Proves that the plan's first part at fault is the plan's fault. A plan that reads through gets the answer of its last part, and its steps and lists
-- are those read before.
-- Assumes nothing.
use Prim.Native.Nat.{ℕ, ◌+◌, ◌<◌, ◌≤◌}
use mathlib.Core.Bool.{Bool, true, false}
use mathlib.Core.List.{List}
use mathlib.Core.Path.{◌≡◌, refl, ap, ◌∙◌}
use lib.Dec.{ltb}
use lib.ListN.{length}
use borrow.Author.Tests.{lt-ltb, le-ltb}
use Rattle.papers.specs.Bounds.{max_peak}
use Rattle.papers.specs.Lists.{flat}
use Rattle.papers.specs.Numbers.{Read, got, bad, then, field, at_end}
use Rattle.papers.specs.Key.{lists_read_from}
use Rattle.papers.specs.Plan.{Plan, steps_read_from, plan_read_from}
use Rattle.bytes_laws.proofs.Fields.{then-got, then-bad}
use Rattle.bytes_laws.proofs.Reaches.{steps-reach, lists-reach}
use Rattle.read_fields.specs.Reading.{PartFound}
use Rattle.read_plan.specs.Plans.{PartKept, StepsKept, ListsKept, peak_read_from, PlanRead}

-- ---- the peak and the end

module _ (s : List ℕ) (at : ℕ) where
  pub no-peak : {number place : ℕ} → field 0 max_peak s at ≡ bad number place → peak_read_from s at ≡ bad number place
  unfolding peak_read_from
  no-peak e = then-bad _ e

  module _ {peak end : ℕ} (e : field 0 max_peak s at ≡ got peak end) where
    -- bytes after it are 15
    pub bytes_after : end < length s → peak_read_from s at ≡ bad 15 (end + 1)
    unfolding peak_read_from at_end
    bytes_after h = then-got _ e ∙ rw (lt-ltb end (length s) h, at_end)

    pub at-the-end : length s ≤ end → peak_read_from s at ≡ got peak end
    unfolding peak_read_from at_end
    at-the-end h = then-got _ e ∙ rw (le-ltb end (length s) h, at_end)

-- ---- the parts

module _ (n : ℕ) (s : List ℕ) (at : ℕ) where
  pub no_steps : {number place : ℕ} → steps_read_from n n s at ≡ bad number place → plan_read_from n s at ≡ bad number place
  unfolding plan_read_from
  no_steps e = then-bad _ e

  pub no-lists : {steps : List (ℕ × ℕ)} {k number place : ℕ} → steps_read_from n n s at ≡ got steps k → lists_read_from n 1 n s k ≡ bad number place
      → plan_read_from n s at ≡ bad number place
  unfolding plan_read_from
  no-lists e f = then-got _ e ∙ then-bad _ f

-- parts that are read end inside the bytes
module _ (n : ℕ) (s : List ℕ) (at : ℕ) where
  pub steps-inside : {Kept : List (ℕ × ℕ) → Type 0} {k : ℕ} → PartKept Kept (steps_read_from n n s at) k → at ≤ length s → k ≤ length s
  steps-inside {k = k} steps h = (steps-reach n s n at steps.part k steps.read).1.inside h

  pub lists-inside : {Kept : List (List ℕ) → Type 0} {total m : ℕ}
      → PartFound (λ lists. length (flat lists)) Kept (lists_read_from n 1 n s at) total m → at ≤ length s → m ≤ length s
  lists-inside {m = m} lists h = (lists-reach n s 1 n at lists.part m lists.read).1.inside h

-- ---- steps and lists are read

-- what is answered, and kept, of a plan whose steps and lists are read
module _ (n : ℕ) (s : List ℕ) (at : ℕ) {order₀ order pops₀ pops starts₀ starts rows₀ rows : List ℕ} {k total m : ℕ}
    (steps : PartKept (StepsKept order₀ order pops₀ pops) (steps_read_from n n s at) k)
    (lists : PartFound (λ lists. length (flat lists)) (ListsKept starts₀ starts rows₀ rows) (lists_read_from n 1 n s k) total m) where
  -- the rest is the peak, and the end
  rest : ℕ → ℕ → Read Plan
  rest peak end = at_end (record { steps = steps.part; lists = lists.part; peak = peak }) s end

  peak-left : plan_read_from n s at ≡ then (field 0 max_peak s m) rest
  unfolding plan_read_from rest
  peak-left = then-got _ steps.read ∙ then-got _ lists.read

  with-peak : Read ℕ → Read Plan
  with-peak (got peak end) = got (record { steps = steps.part; lists = lists.part; peak = peak }) end
  with-peak (bad number place) = bad number place

  by-peak : (found : Read ℕ) → then found rest ≡ with-peak (then found λ peak at. at_end peak s at)
  unfolding rest then at_end with-peak
  by-peak (got peak at) = go (ltb at (length s))
    where
      go : (t : Bool) → elim t [ true ↦ bad 15 (at + 1) | false ↦ got (record { steps = steps.part; lists = lists.part; peak = peak }) at ]
          ≡ with-peak (elim t [ true ↦ bad 15 (at + 1) | false ↦ got peak at ])
      go true = refl
      go false = refl
  by-peak (bad number place) = refl

  left-is : {found : Read ℕ} → peak_read_from s m ≡ found → plan_read_from n s at ≡ with-peak found
  unfolding peak_read_from
  left-is e = peak-left ∙ by-peak (field 0 max_peak s m) ∙ ap with-peak e

  pub peak-fault : {number place : ℕ} → peak_read_from s m ≡ bad number place → plan_read_from n s at ≡ bad number place
  unfolding with-peak
  peak-fault e = left-is e

  pub plan-whole : {peak end : ℕ} → peak_read_from s m ≡ got peak end
      → PlanRead (plan_read_from n s at) (record { peak = peak; rows = total }) order₀ order pops₀ pops starts₀ starts rows₀ rows
  unfolding with-peak
  plan-whole {peak} {end} e = record {
    plan = record { steps = steps.part; lists = lists.part; peak = peak };
    end = end;
    read = left-is e;
    declared = refl;
    counted = lists.value;
    kept = record { columns = steps.kept.columns; popped = steps.kept.popped; begins = lists.kept.begins; listed = lists.kept.listed };
  }
