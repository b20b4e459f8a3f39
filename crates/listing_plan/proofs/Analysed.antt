-- Proves that the listing of an analysis that is done is printed from the parts of its slices that hold the steps and the lists of the job's plan.
-- Assumes nothing.
use Prim.Native.Nat.{ℕ, ◌+◌, ◌≤◌}
use mathlib.Core.Path.{◌≡◌, sym, ap, ◌∙◌}
use mathlib.Core.Logic.{◌≢◌}
use mathlib.Core.List.{List, map}
use native.Mathlib.Omega.{arith}
use lib.ListN.{length, get_or, take}
use lib.Seq.{length-take-le}
use Rattle.papers.specs.declared.Answer.{Answer}
use Rattle.papers.specs.Bounds.{max_columns}
use Rattle.papers.specs.Lists.{flat}
use Rattle.papers.specs.Refusals.{Outcome}
use Rattle.papers.specs.Job.{Job, Below, pattern}
use Rattle.papers.specs.Fill.{R}
use Rattle.papers.specs.Order.{pops_of, order_of}
use Rattle.papers.specs.Key.{lists_of}
use Rattle.papers.specs.Plan.{plan_for, plan_of}
use Rattle.papers.specs.Analysis.{Lent, analysed}
use Rattle.papers.specs.Text.{refusal_line, listing_of, job_printed}
use Rattle.job_laws.specs.Passed.{Passed}
use Rattle.text_laws.proofs.Printed.{refusal-printed}
use Rattle.job_laws.specs.Parts.{Parts}
use Rattle.job_laws.proofs.Passed.{passed-below}
use Rattle.plan_laws.proofs.Steps.{columns-made, pops-made}
use Rattle.plan_laws.proofs.Analysed.{done-valid, done-few, done-parts}
use Rattle.order.proofs.Ties.{starts_of}
use Rattle.listing_steps.specs.Steps.{Printable}
use Rattle.listing_plan.specs.PlanLines.{plan_lines, printed_from}
use Rattle.listing_plan.proofs.Steps.{lines_same, steps-printable}

-- ---- the parts that hold the plan of a job

module _ (job : Job) {order pops starts rows : List ℕ} (parts : Parts job.n (plan_of job) order pops starts rows) where
  order_is : take job.n order ≡ order_of job.mark job.n (pattern job)
  unfolding plan_of plan_for
  order_is = parts.columns ∙ columns-made (pops_of job.n (pattern job)) (order_of job.mark job.n (pattern job))

  pops-is : take job.n pops ≡ map (pops_of job.n (pattern job)) (order_of job.mark job.n (pattern job))
  unfolding plan_of plan_for
  pops-is = parts.popped ∙ pops-made (pops_of job.n (pattern job)) (order_of job.mark job.n (pattern job))

  starts_is : take (job.n + 1) starts ≡ starts_of job.n (pattern job)
  unfolding plan_of plan_for
  starts_is = parts.begins

  rows_is : take (get_or starts job.n 0) rows ≡ flat (lists_of job.n (R (pattern job)))
  unfolding plan_of plan_for
  rows_is = parts.listed

  module _ (passes : Passed job) where
    good : Below job.n (pattern job)
    good = passed-below job passes

    parts-printable : Printable (take job.n order) (take job.n pops) (take (job.n + 1) starts) (take (get_or starts job.n 0) rows)
    parts-printable = rw (order_is, pops-is, starts_is, rows_is) (steps-printable good job.mark passes.few passes.marked)

    parts-printed : (count : ℕ)
        → listing_of job count ≡ plan_lines job.n job.mark count (take job.n order) (take job.n pops) (take (job.n + 1) starts)
        (take (get_or starts job.n 0) rows)
    unfolding listing_of
    parts-printed count = rw (order_is, pops-is, starts_is, rows_is, lines_same good job.mark)

-- ---- an analysis, in the words of its contract

module _ (job : Job) (lent : Lent) {r : Answer} {after : Lent} (e : ◌≡◌ {A = Outcome Lent} (record { answered = r; lent = after }) (analysed job lent))
  where
    answer-is : (analysed job lent).answered ≡ r
    answer-is = sym (ap (λ (o : Outcome Lent). o.answered) e)

    -- the line of its refusal is printed
    pub refused-printed : r.number ≢ 0 → printed_from job lent ≡ refusal_line r
    refused-printed z = ap (job_printed job) answer-is ∙ refusal-printed job r (omega arith)

    listing-printed : r.number ≡ 0 → job_printed job r ≡ listing_of job r.count
    unfolding job_printed
    listing-printed z = rw (z, job_printed)

-- ---- an analysis that is done

-- its answer and its slices
pub record Done (job : Job) (lent : Lent) : Type 0 where
  pub answered : Answer
  pub after : Lent
  pub ends : ◌≡◌ {A = Outcome Lent} (record { answered = answered; lent = after }) (analysed job lent)
  pub zero : answered.number ≡ 0

module _ {job : Job} {lent : Lent} (d : Done job lent) where
  -- the first places of its slices hold the plan
  pub done-lies : Parts job.n (plan_of job) d.after.order d.after.pops d.after.factor_starts d.after.factor_rows
  done-lies = done-parts job lent d.ends d.zero

  -- the plan has few columns, and a step for each
  pub done-columns : job.n ≤ max_columns
  done-columns = done-few job lent d.ends d.zero

  pub done-steps : length (take job.n d.after.order) ≡ job.n
  done-steps = length-take-le job.n d.after.order done-lies.order-long

  -- its steps can be printed
  pub done-printable : Printable (take job.n d.after.order) (take job.n d.after.pops) (take (job.n + 1) d.after.factor_starts)
      (take (get_or d.after.factor_starts job.n 0) d.after.factor_rows)
  done-printable = parts-printable job done-lies (done-valid job lent d.ends d.zero)

  -- the lines of these steps are what is printed
  pub done-printed : printed_from job lent
      ≡ plan_lines job.n job.mark d.answered.count (take job.n d.after.order) (take job.n d.after.pops)
      (take (job.n + 1) d.after.factor_starts) (take (get_or d.after.factor_starts job.n 0) d.after.factor_rows)
  done-printed =
      ap (job_printed job) (answer-is job lent d.ends) ∙ listing-printed job lent d.ends d.zero
      ∙ parts-printed job done-lies (done-valid job lent d.ends d.zero) d.answered.count
