-- Defines what a plan is made from, and what making it leaves: the outcome of the analysis if it is done; if not, slices that are that outcome once
-- they are cleared.
-- Assumes nothing.
use Rattle.std.specs.Prelude.{◌≡◌, ◌≢◌}
use Rattle.papers.specs.declared.Answer.{Answer}
use Rattle.papers.specs.Refusals.{Outcome}
use Rattle.papers.specs.Job.{Job}
use Rattle.papers.specs.Analysis.{Lent, all_zero, analysed, LongEnough, fixed_lengths}
use Rattle.job_laws.specs.Passed.{Passed}

-- a job that passed its tests, and slices that are long enough for it
pub record Plannable (job : Job) (lent : Lent) : Type 0 where
  pub passes : Passed job
  pub long : LongEnough (fixed_lengths job.n lent)

pub record Made (job : Job) (before lent : Lent) (r : Answer) : Type 0 where
  pub done : r.number ≡ 0 → ◌≡◌ {A = Outcome Lent} (record { answered = r; lent = lent }) (analysed job before)
  pub refused : r.number ≢ 0 → ◌≡◌ {A = Outcome Lent} (record { answered = r; lent = all_zero before }) (analysed job before)
