-- Proves that the first places of the slices of an analysis that is done hold the steps and the lists of the job's plan. So they can be written, and
-- the bytes are that plan's.
-- Assumes nothing.
use mathlib.Core.Path.{◌≡◌, refl}
use Rattle.papers.specs.declared.Answer.{Answer}
use Rattle.papers.specs.Lists.{flat, starts_counted_from}
use Rattle.papers.specs.Refusals.{Outcome, EndsAs}
use Rattle.papers.specs.Job.{Job, column_of}
use Rattle.papers.specs.Key.{lists_of}
use Rattle.papers.specs.Plan.{plan_of, bytes_of_plan}
use Rattle.papers.specs.Analysis.{Lent, analysed, PlanLent, plan_written}
use Rattle.job_laws.proofs.Passed.{lists-iff}
use Rattle.job_laws.proofs.Laid.{laid-lists}
use Rattle.job_laws.proofs.Readable.{laid-pass}
use Rattle.job_laws.proofs.Parts.{length-columns, length-pops}
use Rattle.plan_laws.proofs.Analysed.{analysis-done, done-valid, done-peak, done-fit, done-parts}
use Rattle.write_plan.proofs.Steps.{steps-again}
use Rattle.lent.proofs.Alike.{Alike, zeros-alike}
use Rattle.plan_store.specs.AtStart.{JobPlanAtStart}
use Rattle.plan_store.specs.Beside.{stored_beside}
use Rattle.plan_bytes.proofs.Ways.{way-stored}

module _ (job : Job) (lent : Lent) {r : Answer} {after : Lent} (e : ◌≡◌ {A = Outcome Lent} (record { answered = r; lent = after }) (analysed job lent))
    (z : r.number ≡ 0) where
  lists-again : lists_of job.n (column_of (starts_counted_from 0 (plan_of job).lists) (flat (plan_of job).lists)) ≡ (plan_of job).lists
  lists-again = rw (done-fit job lent e z).all-lists at (laid-lists (plan_of job).lists)

  -- the first places of the slices hold the plan
  pub done-at-start : JobPlanAtStart job after.order after.pops after.factor_starts after.factor_rows r.count
  done-at-start =
      let parts = done-parts job lent e z in
      let fit = done-fit job lent e z in
      let tests = (lists-iff job.n (starts_counted_from 0 (plan_of job).lists) (flat (plan_of job).lists)).1
      (laid-pass job.n (plan_of job).lists fit.all-lists fit.lists) in
      rw (done-peak job lent e z)
      (record {
        order-long = parts.order-long;
        pops-long = parts.pops-long;
        starts-long = parts.starts-long;
        rows_long = parts.rows_long;
        writable =
            rw (parts.columns, parts.popped, parts.begins, parts.listed)
            (record {
              passes = done-valid job lent e z;
              all-steps = length-columns fit;
              all-pops = length-pops fit;
              starts-pass = tests.0;
              rows_pass = tests.1;
              declared = fit.peak;
            });
        planned = rw (parts.columns, parts.popped, parts.begins, parts.listed, steps-again (plan_of job).steps, lists-again);
      })

-- storing it beside the analysis gives the outcome
pub done-stored : (job : Job) (slices : PlanLent) {r : Answer} {after : Lent} → EndsAs r after (analysed job slices.analysis) → r.number ≡ 0
    → {found : Outcome PlanLent} → Alike slices.analysis after
    → found ≡ stored_beside (bytes_of_plan job (plan_of job)) (record { analysis = after; bytes = slices.bytes }) → found ≡ plan_written job slices
done-stored job slices {after = after} e z alike f =
    let done = analysis-done job slices.analysis e z in
    way-stored job slices done.early done.late done.holds (zeros-alike slices.analysis after alike refl) f
