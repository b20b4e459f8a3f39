-- Proves that every plan the planner writes passes the check of its job: it is the plan of a valid job under the job's mark, so it is
-- sound, and its peak is within the limit. So writing and then checking gives the same lists.
-- Assumes nothing.
use Prim.Native.Nat.{◌≤◌}
use mathlib.Core.Path.{◌≡◌, refl, sym, ap, ◌∙◌}
use mathlib.Core.List.{◌++◌}
use lib.ListN.{length}
use Rattle.papers.specs.Lists.{flat}
use Rattle.papers.specs.Refusals.{passed, of, first, Outcome}
use Rattle.papers.specs.Job.{Job}
use Rattle.papers.specs.Plan.{plan_of, bytes_of_plan}
use Rattle.papers.specs.Analysis.{Lent, holding_plan, written_part, analysis_early, analysis_late, PlanLent, PlanCall, analysis_of}
use Rattle.papers.specs.Analysis.{plan_early, plan_late, plan_done, plan_written}
use Rattle.list_laws.proofs.Stores.{take-then-zeros}
use Rattle.job_laws.specs.Passed.{Passed}
use Rattle.job_laws.proofs.Firsts.{append-passed-iff, first_of}
use Rattle.refusal_laws.proofs.Agreements.{passed-iff, append-agree}
use Rattle.refusal_laws.proofs.Analysis.{plan-early-agree, plan-late-agree, write-plan-exactly}
use Rattle.plan_laws.specs.Passing.{Long, Passing, GivesBack}
use Rattle.plan_laws.proofs.Sounds.{planned-sound}
use Rattle.plan_laws.proofs.Checked.{check-holds}
use Rattle.plan_laws.proofs.Analysed.{passed-valid, passed-within}

-- the plan of a valid job passes if its peak is within the limit, under every mark
pub planned-passes : (job : Job) → Passed job → (plan_of job).peak ≤ job.limit → (lent : Lent)
    → Long job.n (length (flat (plan_of job).lists)) lent
    → Passing job (plan_of job) (bytes_of_plan job (plan_of job)) lent
planned-passes job valid within lent long = record { valid = valid; whole = refl; sound = planned-sound job valid within; long = long }

module _ (job : Job) (slices : PlanLent) (done : (plan_written job slices).answered.number ≡ 0) where
  abbrev call : PlanCall
  call = record { job = job; slices = slices }

  -- it has passed all its tests
  passes : first (plan_early ++ plan_late) call ≡ passed
  passes =
      (passed-iff (plan_early ++ plan_late) call (append-agree plan_early plan_late call (plan-early-agree call) (λ p. plan-late-agree call))).1
      ((write-plan-exactly call).done-iff.0 done)

  analysed-on : (first analysis_early (analysis_of call) ≡ passed) × (first analysis_late (analysis_of call) ≡ passed)
  unfolding plan_early plan_late
  analysed-on =
      let (early, late) = (append-passed-iff plan_early plan_late call).0 passes in (
        sym (first_of analysis_of analysis_early call) ∙ early,
        sym (first_of analysis_of analysis_late call) ∙ ((append-passed-iff (of analysis_of analysis_late) _ call).0 late).0,
      )

  pub written-valid : Passed job
  written-valid = passed-valid job slices.analysis analysed-on.0

  pub written-within : (plan_of job).peak ≤ job.limit
  written-within = passed-within job slices.analysis analysed-on.1

  written_is : plan_written job slices ≡ plan_done call
  written_is = (write-plan-exactly call).when-done done

  -- after writing, the slices hold the plan of the job
  pub written-holds : (plan_written job slices).lent.analysis ≡ holding_plan job (plan_of job) slices.analysis
  unfolding plan_done
  written-holds = ap (λ (o : Outcome PlanLent). o.lent.analysis) written_is

  -- the part of the byte slice that holds the plan
  part-is : written_part (plan_written job slices).answered (plan_written job slices).lent.bytes ≡ bytes_of_plan job (plan_of job)
  unfolding plan_done
  part-is = rw written_is (take-then-zeros (bytes_of_plan job (plan_of job)) slices.bytes refl)

  -- a written plan passes the check of its job, if the slices are long enough
  pub written-plan-passes : (lent : Lent) → Long job.n (length (flat (plan_of job).lists)) lent
      → Passing job (plan_of job) (written_part (plan_written job slices).answered (plan_written job slices).lent.bytes) lent
  written-plan-passes lent long = rw part-is (planned-passes job written-valid written-within lent long)

  -- after writing and checking, the slices of both calls hold the same lists
  pub write-then-check : (lent : Lent) → Long job.n (length (flat (plan_of job).lists)) lent → GivesBack job slices lent
  unfolding plan_done
  write-then-check lent long =
      let p = planned-passes job written-valid written-within lent long in
      record {
        plan = plan_of job;
        written = written_is;
        checked-again = rw part-is (check-holds job (bytes_of_plan job (plan_of job)) lent (plan_of job) p);
      }
