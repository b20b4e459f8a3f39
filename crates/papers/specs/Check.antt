-- Defines when the check of a plan's bytes refuses (11 to 20), and its whole outcome.
-- Assumes nothing.
use Rattle.std.specs.Prelude.{ℕ, ◌-◌, ◌<◌, ◌≤◌, ◌≡◌, ◌≢◌, Bool, not, List, [], ◌∷◌, eqb, length, get_or, take}
use Rattle.papers.specs.Lists.{nth, member, same, flat}
use Rattle.papers.specs.Refusals.{answer, Verdict, passed, refused, Refusal, when, at_least, of, Outcome, outcome}
use Rattle.papers.specs.Job.{Job, pattern}
use Rattle.papers.specs.Fill.{R}
use Rattle.papers.specs.Tree.{parent}
use Rattle.papers.specs.Order.{column_at_step, Together, scattered, pops_of, order_peak}
use Rattle.papers.specs.Numbers.{differs_at, Agrees, got, bad}
use Rattle.papers.specs.Key.{key_of}
use Rattle.papers.specs.Plan.{Plan, columns_in, pops_in, AreOf, plan_read, PlanFault}
use Rattle.papers.specs.Analysis.{Lent, all_zero, holding_plan, early_refusals, early_of, rows_exceed, peak_over}

-- the input of a check: a job, plan bytes, and the slices lent
pub record CheckCall : Type 0 where
  pub job : Job
  pub plan : List ℕ
  pub lent : Lent

-- ---- 11 to 15: the bytes

-- 11: the plan does not begin with the job's key; the place is the first byte that differs, or the one at which the plan has ended
abbrev pub other_key : Refusal CheckCall
other_key =
    at_least 11 (λ call. length (key_of call.job)) (λ call p. differs_at (key_of call.job) call.plan p)
    (λ call p. ¬ Agrees (key_of call.job) call.plan p)

-- finds 12 to 15: what reading meets
unfoldable pub read_test : CheckCall → Verdict
read_test call = elim (plan_read call.job call.plan) [ got plan at ↦ passed | bad number place ↦ refused (answer number place 0) ]

-- 12 to 15: the bytes behind the key are at fault
abbrev pub bad_plan : Refusal CheckCall
bad_plan = record { test = read_test; gives = λ call. PlanFault call.job.n call.plan (length (key_of call.job)) }

-- ---- 16 to 20 and 9: a plan of a job

-- a plan that is judged, and its job
pub record JobPlan : Type 0 where
  pub job : Job
  pub plan : Plan

-- a refusal at the least step or column where something holds
abbrev pub at_step : ℕ → (JobPlan → ℕ → Bool) → (JobPlan → ℕ → Type 0) → Refusal JobPlan
at_step number test holds = at_least number (λ x. x.job.n) test holds

-- the columns of its steps
abbrev pub columns : JobPlan → List ℕ
columns x = columns_in x.plan.steps

-- tests whether an earlier step has the same column as step s
unfoldable pub repeated_at : List ℕ → ℕ → Bool
repeated_at order s = member (column_at_step order s) (take (s - 1) order)

-- an earlier step has the same column as step s
abbrev pub Repeated : List ℕ → ℕ → Type 0
Repeated order s = (k : ℕ) × ((1 ≤ k) × (k < s)) × (column_at_step order k ≡ column_at_step order s)

-- 16: a column is done twice; the place is the later step
abbrev pub column_repeated : Refusal JobPlan
column_repeated = at_step 16 (λ x. repeated_at (columns x)) (λ x. Repeated (columns x))

-- the plan's list of column j
abbrev pub list_of_plan_at : Plan → ℕ → List ℕ
list_of_plan_at plan j = get_or plan.lists (j - 1) []

-- 17: a list of the plan is not R(j); the place is the lowest such column
abbrev pub list_wrong : Refusal JobPlan
list_wrong =
    at_step 17 (λ x j. not (same (list_of_plan_at x.plan j) (R (pattern x.job) j))) (λ x j. ¬ (list_of_plan_at x.plan j ≡ R (pattern x.job) j))

-- 18: a subtree's steps are not consecutive with its top last; the place is the lowest step of such a top
abbrev pub subtree_scattered : Refusal JobPlan
subtree_scattered =
    at_step 18 (λ x. scattered (parent (pattern x.job)) x.job.n (columns x)) (λ x s. ¬ Together (parent (pattern x.job)) (columns x) s)

-- the number of children of step s's column
abbrev pub children_at : JobPlan → ℕ → ℕ
children_at x s = pops_of x.job.n (pattern x.job) (column_at_step (columns x) s)

-- 19: a step's pops are not its column's number of children; the place is the first such step
abbrev pub pops_wrong : Refusal JobPlan
pops_wrong =
    at_step 19 (λ x s. not (eqb (nth (pops_in x.plan.steps) s) (children_at x s))) (λ x s. nth (pops_in x.plan.steps) s ≢ children_at x s)

-- the true peak of the plan's order
unfoldable pub true_peak_of : Job → Plan → ℕ
true_peak_of job plan = order_peak job.n (pattern job) (columns_in plan.steps)

-- 20: the plan declares another peak than the true one; the count is the true one
abbrev pub peak_wrong : Refusal JobPlan
peak_wrong =
    when (λ x. not (eqb x.plan.peak (true_peak_of x.job x.plan))) (λ x. x.plan.peak ≢ true_peak_of x.job x.plan)
    (λ x. answer 20 0 (true_peak_of x.job x.plan))

-- the refusals of a plan: 16 to 20, then 9
unfoldable pub judge_refusals : List (Refusal JobPlan)
judge_refusals =
    column_repeated
    ∷ list_wrong
    ∷ subtree_scattered
    ∷ pops_wrong
    ∷ peak_wrong
    ∷ peak_over (λ x. true_peak_of x.job x.plan) (λ x. x.job)
    ∷ []

-- ---- the plan that the bytes encode

-- the verdict on the plan that was read; if none was read, 12 to 15 has refused before
unfoldable pub plan_test : (CheckCall × Plan → Verdict) → CheckCall → Verdict
plan_test test call = elim (plan_read call.job call.plan) [ got plan at ↦ test (call, plan) | bad number place ↦ passed ]

-- a refusal of the plan whose bytes these are
abbrev pub of_plan : Refusal (CheckCall × Plan) → Refusal CheckCall
of_plan r = record {
  test = plan_test r.test;
  gives = λ call a. (plan : Plan) × AreOf call.job call.plan plan × r.gives (call, plan) a;
}

-- refusals of it
abbrev pub of_plans : List (Refusal (CheckCall × Plan)) → List (Refusal CheckCall)
of_plans [] = []
of_plans (r ∷ rs) = of_plan r ∷ of_plans rs

-- ---- the check

-- the early refusals of a check: 1 to 7
unfoldable pub check_early : List (Refusal CheckCall)
check_early = of (λ call. early_of call.job call.lent) early_refusals

-- the refusals of the plan that the bytes encode: 8, then those of a plan of the job
unfoldable pub plan_refusals : List (Refusal (CheckCall × Plan))
plan_refusals =
    rows_exceed (λ (call, plan). length (flat plan.lists)) (λ (call, plan). call.lent)
    ∷ of (λ (call, plan). record { job = call.job; plan = plan }) judge_refusals

-- the late ones: 11 to 15, then those of the plan
unfoldable pub check_late : List (Refusal CheckCall)
check_late = other_key ∷ bad_plan ∷ of_plans plan_refusals

-- a check is done: the slices hold the parents and the plan's own order, pops and lists, and the count is the peak. If no plan was read, an
-- earlier test has refused.
unfoldable pub check_done : CheckCall → Outcome Lent
check_done call =
    elim (plan_read call.job call.plan) [
      | got plan at ↦ record { answered = answer 0 0 plan.peak; lent = holding_plan call.job plan call.lent }
      | bad number place ↦ record { answered = answer number place 0; lent = all_zero call.lent }
    ]

-- the whole outcome of a check
unfoldable pub checked : Job → List ℕ → Lent → Outcome Lent
checked job plan lent = outcome check_early check_late check_done all_zero (record { job = job; plan = plan; lent = lent }) lent
