-- Defines what is known of a check after its tests, before the slices are cleared.
-- Assumes nothing.
use Rattle.std.specs.Prelude.{ℕ, ◌≡◌, ◌≢◌, List}
use Rattle.papers.specs.declared.Answer.{Answer}
use Rattle.papers.specs.Lists.{zeros}
use Rattle.papers.specs.Refusals.{passed, refused, first, Outcome}
use Rattle.papers.specs.Job.{Job}
use Rattle.papers.specs.Analysis.{Lent, LongEnough, fixed_lengths}
use Rattle.papers.specs.Check.{CheckCall, check_done, check_early, check_late}
use Rattle.job_laws.specs.Passed.{Passed}
use Rattle.lent.specs.Six.{six_slices}

abbrev pub check_of : Job → List ℕ → Lent → CheckCall
check_of job plan lent = record { job = job; plan = plan; lent = lent }

-- what the check of a plan's bytes requires: a job that passed its tests, and slices that are long enough for it
pub record Checkable (job : Job) (lent : Lent) : Type 0 where
  pub passes : Passed job
  pub long : LongEnough (fixed_lengths job.n lent)

-- a refusal, after which the slices are to be cleared; or a plan that passes, which the slices hold, and work is to be cleared
pub data Ruled (call : CheckCall) (parents order pops starts rows : List ℕ) (r : Answer) : Type 0 where
  refuses : first check_early call ≡ passed → first check_late call ≡ refused r → r.number ≢ 0 → Ruled call parents order pops starts rows r
  passes : first check_early call ≡ passed → first check_late call ≡ passed → r.number ≡ 0
      → ◌≡◌ {A = Outcome Lent} (record { answered = r; lent = six_slices parents order pops starts rows (zeros call.lent.work) }) (check_done call)
      → Ruled call parents order pops starts rows r
