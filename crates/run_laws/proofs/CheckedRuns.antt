-- Proves that what passes the check runs: the bytes are those of a sound plan, the checked slices hold that plan, and the parts handed on
-- are its own lists.
-- Assumes nothing.
use Prim.Native.Nat.{ℕ, ◌≤◌}
use mathlib.Core.Path.{◌≡◌, sym, ap, subst, ◌∙◌}
use mathlib.Core.List.{List}
use native.Mathlib.Omega.{arith}
use lib.ListN.{length}
use Rattle.papers.specs.Lists.{zeros}
use Rattle.papers.specs.Refusals.{answer, Outcome}
use Rattle.papers.specs.Job.{Job, pattern}
use Rattle.papers.specs.Numbers.{Bytes}
use Rattle.papers.specs.Plan.{Plan, plan_of, Sound}
use Rattle.papers.specs.Analysis.{Lent, holding_plan, PlanLent, plan_written}
use Rattle.papers.specs.Check.{checked}
use Rattle.papers.specs.Run.{ran, handed_on_call}
use Rattle.papers.specs.declared.Answer.{Answer}
use Rattle.job_laws.specs.Passed.{Passed}
use Rattle.plan_laws.proofs.Sounds.{sound-fits, planned-sound}
use Rattle.plan_laws.proofs.Checked.{check-holds, check-passes-iff}
use Rattle.plan_laws.proofs.Written.{written-valid, written-within, written-holds}
use Rattle.run_laws.specs.Runs.{Runs, RunsInPeak, CheckedRun}
use Rattle.run_laws.proofs.SoundRuns.{sound-plan-runs, less-room-refused}
use Rattle.run_laws.proofs.HandedOn.{handed-on}

module _ (job : Job) (stack : List ℕ) (long : job.n ≤ length stack) where
  -- slices that hold a sound plan of a valid job run
  stored-plan-runs : (plan : Plan) (lent : Lent) → Passed job → Sound job plan
      → RunsInPeak job (holding_plan job plan lent) plan.peak stack
  stored-plan-runs plan lent valid sound =
      let fit = sound-fits job valid plan sound in
      record {
        runs = rw (handed-on job plan lent plan.peak stack fit) (sound-plan-runs job plan valid sound plan.peak stack long (omega arith));
        less = λ room h. rw (handed-on job plan lent room stack fit) (less-room-refused job plan valid sound room stack long h);
      }

  -- the lists of a checked plan run in its declared peak, and in no less room, whatever bytes they come from
  pub checked-plan-runs : (bytes : List ℕ) → Bytes bytes → (lent : Lent) → (checked job bytes lent).answered.number ≡ 0
      → CheckedRun job bytes lent stack
  checked-plan-runs bytes are-bytes lent done =
      let (plan, p) = (check-passes-iff job bytes lent are-bytes).0 done in
      let holds = check-holds job bytes lent plan p in
      record {
        plan = plan;
        declared = p.whole;
        sound = p.sound;
        counted = ap (λ (o : Outcome Lent). o.answered) holds;
        in-peak = rw holds (stored-plan-runs plan lent p.valid p.sound);
      }

  -- the same of what the code answers: o is any outcome that the contract of the check allows, and r any that the contract of the run
  -- allows on the parts handed on, with the check's count as room
  pub answers-run : (bytes : List ℕ) → Bytes bytes → (lent : Lent) (o : Outcome Lent) (r : Outcome (List ℕ))
      → o ≡ checked job bytes lent → o.answered.number ≡ 0 → r ≡ ran (handed_on_call job.n o.lent o.answered.count stack)
      → (r ≡ record { answered = answer 0 0 o.answered.count; lent = zeros stack }) × Runs (pattern job) o.answered.count
      (handed_on_call job.n o.lent o.answered.count stack)
  unfolding handed_on_call
  answers-run bytes are-bytes lent o r e done f =
      let runs = subst (λ (x : Outcome Lent). x.answered.number ≡ 0
      → Runs (pattern job) x.answered.count (handed_on_call job.n x.lent x.answered.count stack)) (sym e) counted done in
      (f ∙ runs.completes, runs)
    where
      counted : (checked job bytes lent).answered.number ≡ 0
          → Runs (pattern job) (checked job bytes lent).answered.count (handed_on_call job.n (checked job bytes lent).lent
          (checked job bytes lent).answered.count stack)
      counted z = let c = checked-plan-runs bytes are-bytes lent z in let k = ap (λ (a : Answer). a.count) c.counted in rw k c.in-peak.runs

  -- the lists of a written plan run as well
  pub written-plan-runs : (slices : PlanLent) → (plan_written job slices).answered.number ≡ 0
      → RunsInPeak job (plan_written job slices).lent.analysis (plan_of job).peak stack
  written-plan-runs slices done =
      let valid = written-valid job slices done in
      rw (written-holds job slices done) (stored-plan-runs (plan_of job) slices.analysis valid
      (planned-sound job valid (written-within job slices done)))
