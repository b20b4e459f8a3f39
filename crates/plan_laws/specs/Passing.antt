-- Defines what it takes to pass the check, and what is proved of a plan that is written and then checked.
-- Assumes nothing.
use Rattle.std.specs.Prelude.{ℕ, ◌≤◌, ◌≡◌, List, length}
use Rattle.papers.specs.Lists.{flat, then_zeros}
use Rattle.papers.specs.Refusals.{answer}
use Rattle.papers.specs.Job.{Job}
use Rattle.papers.specs.Plan.{Plan, bytes_of_plan, Sound}
use Rattle.papers.specs.Analysis.{Lent, holding_plan, PlanLent, plan_written, written_part, LongEnough, fixed_lengths}
use Rattle.job_laws.specs.Passed.{Passed}
use Rattle.papers.specs.Check.{checked}

-- the slices are long enough for n columns and this many factor rows
pub record Long (n needed : ℕ) (lent : Lent) : Type 0 where
  pub fixed : LongEnough (fixed_lengths n lent)
  pub rows : needed ≤ length lent.factor_rows

-- plan bytes pass: the job is valid, the bytes are those of a sound plan of it, and the slices are long enough
pub record Passing (job : Job) (plan : Plan) (bytes : List ℕ) (lent : Lent) : Type 0 where
  pub valid : Passed job
  pub whole : bytes ≡ bytes_of_plan job plan
  pub sound : Sound job plan
  pub long : Long job.n (length (flat plan.lists)) lent

-- A plan that was written and is then checked: the slices of both calls hold the same plan. The check takes the part that holds the bytes,
-- and slices of its own.
pub record GivesBack (job : Job) (slices : PlanLent) (lent : Lent) : Type 0 where
  pub plan : Plan
  pub written : plan_written job slices ≡ record {
    answered = answer 0 0 (length (bytes_of_plan job plan));
    lent = record { analysis = holding_plan job plan slices.analysis; bytes = then_zeros (bytes_of_plan job plan) slices.bytes };
  }
  pub checked-again : checked job (written_part (plan_written job slices).answered (plan_written job slices).lent.bytes) lent
      ≡ record { answered = answer 0 0 plan.peak; lent = holding_plan job plan lent }
