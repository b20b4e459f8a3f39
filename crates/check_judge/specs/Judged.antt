-- Defines a plan that was read, as slices hold it, the tests that judge it, and the answer to their verdict.
-- Assumes nothing.
use Rattle.std.specs.Prelude.{ℕ, ◌+◌, ◌≤◌, ◌≡◌, List, [], ◌∷◌, map, length, take}
use Rattle.std.proofs.lemmas.List.Edits.{sets}
use Rattle.papers.specs.declared.Answer.{Answer}
use Rattle.papers.specs.Bounds.{work_length_for}
use Rattle.papers.specs.Lists.{up_to, flat, starts_counted_from}
use Rattle.papers.specs.Refusals.{answer, Verdict, passed, refused, first, Refusal}
use Rattle.papers.specs.Job.{Job, pattern}
use Rattle.papers.specs.Tree.{parent}
use Rattle.papers.specs.Plan.{Plan, columns_in, pops_in, Fit}
use Rattle.papers.specs.Analysis.{Lent, LongEnough, fixed_lengths, peak_over}
use Rattle.papers.specs.Check.{true_peak_of, JobPlan, column_repeated, judge_refusals, list_wrong, subtree_scattered, pops_wrong, peak_wrong}
use Rattle.job_laws.specs.Passed.{Passed}

-- slices of exactly its lengths hold the steps and the starts of a plan of n columns, whose numbers are in their ranges
pub record PlanStored (n : ℕ) (plan : Plan) (peak : ℕ) (order pops fstarts : List ℕ) : Type 0 where
  pub fit : Fit n plan
  pub declared : plan.peak ≡ peak
  pub columns : order ≡ columns_in plan.steps
  pub popped : pops ≡ pops_in plan.steps
  pub begins : fstarts ≡ starts_counted_from 0 plan.lists

-- the first places of slices hold the same, and the rows of its lists
pub record PlanAtStart (n : ℕ) (plan : Plan) (peak : ℕ) (order pops fstarts frows : List ℕ) : Type 0 where
  pub stored : PlanStored n plan peak (take n order) (take n pops) (take (n + 1) fstarts)
  pub listed : take (length (flat plan.lists)) frows ≡ flat plan.lists

-- these slices hold some plan
pub record HoldPlan (n peak : ℕ) (order pops fstarts frows : List ℕ) : Type 0 where
  pub plan : Plan
  pub at-start : PlanAtStart n plan peak order pops fstarts frows

-- what 16 to 20 and 9 require: a job that passed 1 to 6, and slices that are long enough and hold some plan
pub record PlanGiven (job : Job) (peak : ℕ) (lent : Lent) : Type 0 where
  pub valid : Passed job
  pub plan : HoldPlan job.n peak lent.order lent.pops lent.factor_starts lent.factor_rows
  pub long : LongEnough (fixed_lengths job.n lent)

-- a plan of a job
abbrev pub plan_from : Job → Plan → JobPlan
plan_from job plan = record { job = job; plan = plan }

-- a job passed 1 to 6, the slices hold the parents of its columns and a plan, and this passed 16 and 17, so its lists are R
pub record OnTree (job : Job) (plan : Plan) (limit peak : ℕ) (parents order pops fstarts : List ℕ) : Type 0 where
  pub valid : Passed job
  pub limited : job.limit ≡ limit
  pub stored : PlanStored job.n plan peak order pops fstarts
  pub unrepeated : column_repeated.test (plan_from job plan) ≡ passed
  pub right : list_wrong.test (plan_from job plan) ≡ passed
  pub parents-are : parents ≡ map (parent (pattern job)) (up_to job.n)

-- the slices hold such a plan of some job
pub record SomeOnTree (limit peak : ℕ) (parents order pops fstarts : List ℕ) : Type 0 where
  pub job : Job
  pub plan : Plan
  pub on : OnTree job plan limit peak parents order pops fstarts

-- what 18, 19, 20 and 9 require: such a plan, and room in work
pub record TreeGiven (limit peak : ℕ) (parents order pops fstarts work : List ℕ) : Type 0 where
  pub plan : SomeOnTree limit peak parents order pops fstarts
  pub room : work_length_for (length parents) ≤ length work

-- the refusals 18, 19, 20 and 9, in this order
unfoldable pub tree_refusals : List (Refusal JobPlan)
tree_refusals = subtree_scattered ∷ pops_wrong ∷ peak_wrong ∷ peak_over (λ x. true_peak_of x.job x.plan) (λ x. x.job) ∷ []

-- the answer to a verdict: the refusal's, or done with a count
unfoldable pub ruling : Verdict → ℕ → Answer
ruling passed count = answer 0 0 count
ruling (refused a) count = a

-- r answers 18, 19, 20 and 9; then 16 to 20 and 9, of the plan that the slices hold
abbrev pub TreeJudged : ℕ → ℕ → List ℕ → List ℕ → List ℕ → List ℕ → Answer → Type 0
TreeJudged limit peak parents order pops fstarts r =
    (job : Job) (plan : Plan) → OnTree job plan limit peak parents order pops fstarts → r ≡ ruling (first tree_refusals (plan_from job plan)) peak

abbrev pub Judged : Job → ℕ → List ℕ → List ℕ → List ℕ → List ℕ → Answer → Type 0
Judged job peak order pops fstarts frows r =
    (plan : Plan) → PlanAtStart job.n plan peak order pops fstarts frows → r ≡ ruling (first judge_refusals (plan_from job plan)) peak

-- r answers 16 to 20 and 9; if the plan passes, the parents are stored at the start of their slice
pub record Judgement (job : Job) (peak : ℕ) (parents order pops fstarts frows after : List ℕ) (r : Answer) : Type 0 where
  pub answers : Judged job peak order pops fstarts frows r
  pub stores : r.number ≡ 0 → after ≡ sets parents 0 (map (parent (pattern job)) (up_to job.n))
