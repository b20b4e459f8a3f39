-- Proves that a plan read into cleared slices is at their start: each slice holds the plan's list, then zeros.
-- Assumes nothing.
use Prim.Native.Nat.{ℕ, ◌≤◌}
use mathlib.Core.Path.{◌≡◌, refl, ap, ◌∙◌}
use mathlib.Core.List.{List, map}
use native.Mathlib.Omega.{arith}
use lib.ListN.{length}
use lib.Seq.{sets}
use Rattle.papers.specs.Lists.{up_to, flat, zeros, then_zeros}
use Rattle.papers.specs.Job.{Job, pattern}
use Rattle.papers.specs.Tree.{parent}
use Rattle.papers.specs.Plan.{Plan, Fit}
use Rattle.papers.specs.Analysis.{Lent, holding_plan, LongEnough, fixed_lengths}
use Rattle.list_laws.proofs.Stores.{sets-zeros, take-then-zeros}
use Rattle.job_laws.specs.Parts.{InSlices}
use Rattle.job_laws.proofs.Parts.{length-columns, length-pops, length-begins}
use Rattle.lent.specs.Six.{six_slices}
use Rattle.lent.proofs.Sixes.{sixes}
use Rattle.read_plan.specs.Plans.{PlanKept}
use Rattle.check_judge.specs.Judged.{PlanAtStart}
use Rattle.check_judge.proofs.Lists.{parents-count}

-- stores a list in a cleared slice; a part then holds it
stored : (xs l₀ : List ℕ) {l₁ l : List ℕ} → l₁ ≡ zeros l₀ → l ≡ sets l₁ 0 xs → length xs ≤ length l₀ → l ≡ then_zeros xs l₀
stored xs l₀ c e h = e ∙ ap (λ l. sets l 0 xs) c ∙ sets-zeros xs l₀ h

module _ {n : ℕ} {plan : Plan} (fit : Fit n plan) (before : Lent) where
  -- what the reading keeps in cleared slices
  pub in-slices : {o₁ o q₁ q s₁ s r₁ r : List ℕ} → LongEnough (fixed_lengths n before) → length (flat plan.lists) ≤ length before.factor_rows
      → o₁ ≡ zeros before.order → q₁ ≡ zeros before.pops → s₁ ≡ zeros before.factor_starts → r₁ ≡ zeros before.factor_rows
      → PlanKept plan o₁ o q₁ q s₁ s r₁ r → InSlices plan before o q s r
  in-slices long rows co cq cs cr kept = record {
    columns = stored _ before.order co kept.columns (omega (arith, length-columns fit, long));
    popped = stored _ before.pops cq kept.popped (omega (arith, length-pops fit, long));
    begins = stored _ before.factor_starts cs kept.begins (omega (arith, length-begins fit, long));
    listed = stored _ before.factor_rows cr kept.listed rows;
  }

  module _ {order pops starts rows : List ℕ} (in-them : InSlices plan before order pops starts rows) where
    -- the plan is at their start
    pub plan-at-start : {peak : ℕ} → plan.peak ≡ peak → PlanAtStart n plan peak order pops starts rows
    plan-at-start declared = record {
      stored = record {
        fit = fit;
        declared = declared;
        columns = rw in-them.columns (take-then-zeros _ before.order (length-columns fit));
        popped = rw in-them.popped (take-then-zeros _ before.pops (length-pops fit));
        begins = rw in-them.begins (take-then-zeros _ before.factor_starts (length-begins fit));
      };
      listed = rw in-them.listed (take-then-zeros _ before.factor_rows refl);
    }

-- done: the parents are stored at the start of their slice, and work is cleared
pub done-holds : (job : Job) (plan : Plan) (before : Lent) {parents₁ parents order pops starts rows : List ℕ} → job.n ≤ length before.parents
    → parents₁ ≡ zeros before.parents
    → parents ≡ sets parents₁ 0 (map (parent (pattern job)) (up_to job.n)) → InSlices plan before order pops starts rows
    → six_slices parents order pops starts rows (zeros before.work) ≡ holding_plan job plan before
unfolding holding_plan
done-holds job plan before h c e s =
    sixes (stored _ before.parents c e (omega (arith, parents-count (parent (pattern job)) job.n refl))) s.columns s.popped s.begins
    s.listed refl
