-- Proves that the steps of a plan stored in slices name known columns, and that the test for repeats reads those steps.
-- Assumes nothing.
use Prim.Native.Nat.{ℕ, ◌≤◌}
use mathlib.Core.Path.{◌≡◌, ap, ◌∙◌}
use mathlib.Core.List.{List, []}
use lib.ListN.{length, get_or}
use Rattle.papers.specs.declared.Answer.{Answer}
use Rattle.papers.specs.Lists.{◌∈◌, least}
use Rattle.papers.specs.Refusals.{answer, passed, first}
use Rattle.papers.specs.Job.{Job}
use Rattle.papers.specs.Plan.{Plan, columns_in}
use Rattle.papers.specs.Check.{repeated_at, column_repeated, judge_refusals}
use Rattle.list_laws.proofs.Members.{at_place}
use Rattle.job_laws.proofs.Parts.{length-pops}
use Rattle.check_laws.proofs.PlanSteps.{Steps, fit-steps}
use Rattle.check_steps.specs.Steps.{Within}
use Rattle.std.specs.Prelude.{Option, Some, None}
use Rattle.refusals.specs.Answers.{place_if_any}
use Rattle.check_judge.specs.Judged.{PlanStored, ruling, plan_from}
use Rattle.check_judge.proofs.Rulings.{ruling-refused, decides, place-refuses, place-passes}

module _ {n peak : ℕ} {plan : Plan} {order pops fstarts : List ℕ} (stored : PlanStored n plan peak order pops fstarts) where
  pub read : Steps n n (columns_in plan.steps)
  read = fit-steps stored.fit

  pub order-length : length order ≡ n
  order-length = ap length stored.columns ∙ read.0

  pub pops_length : length pops ≡ n
  pops_length = ap length stored.popped ∙ length-pops stored.fit

  pub in-range : (j : ℕ) → j ∈ order → (1 ≤ j) × (j ≤ n)
  in-range j m = read.1 j (rw stored.columns at m)

  pub within : Within (length order) order
  within k h = rw order-length (in-range (get_or order k 0) (at_place order k h))

-- ---- 16
module _ (job : Job) (plan : Plan) {peak : ℕ} {order pops fstarts : List ℕ} (stored : PlanStored job.n plan peak order pops fstarts) {step : Option ℕ}
    (e : step ≡ place_if_any (least (repeated_at order) (length order))) where
  found : step ≡ place_if_any (least (repeated_at (columns_in plan.steps)) job.n)
  found = rw (order-length stored, stored.columns) at e

  pub refuses-16 : {p : ℕ} → step ≡ Some p → {r : Answer} → r ≡ answer 16 p 0 → r ≡ ruling (first judge_refusals (plan_from job plan)) peak
  unfolding judge_refusals
  refuses-16 is q = ruling-refused peak (decides [] column_repeated _ (plan_from job plan) tt (place-refuses 16 _ found is)) q

  pub passes-16 : step ≡ None → column_repeated.test (plan_from job plan) ≡ passed
  passes-16 is = place-passes 16 _ found is
