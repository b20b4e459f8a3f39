-- Defines what the writer of a job's listing requires.
-- Assumes nothing.
use Rattle.std.specs.Prelude.{ℕ, ◌≤◌, List, length}
use Rattle.papers.specs.Bounds.{program_columns}
use Rattle.papers.specs.Job.{Job}
use Rattle.papers.specs.Text.{buffers}
use Rattle.listing_plan.specs.PlanLines.{printed_from}

-- the job has no more columns than the program's sizes allow, and what is printed of it fits
pub record JobFits (job : Job) (bytes : List ℕ) : Type 0 where
  pub columns : job.n ≤ program_columns
  pub fits : length (printed_from job buffers) ≤ length bytes
