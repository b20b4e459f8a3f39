-- Defines the listing of a plan that the slices of an analysis hold, and what its writers require.
-- Assumes nothing.
use Rattle.std.specs.Prelude.{ℕ, ◌<◌, ◌≤◌, List, [], ◌∷◌, ◌++◌, length}
use Rattle.papers.specs.Job.{Job}
use Rattle.papers.specs.Analysis.{Lent, analysed}
use Rattle.papers.specs.Text.{word_plan, printed, job_printed}
use Rattle.listing_steps.specs.Steps.{lines_to, Printable}

-- a header, then the lines of the steps
abbrev pub plan_lines : ℕ → ℕ → ℕ → List ℕ → List ℕ → List ℕ → List ℕ → List ℕ
plan_lines n mark peak order pops starts rows = printed word_plan (n ∷ mark ∷ peak ∷ []) ++ lines_to order pops starts rows (length order)

-- what is printed of a job that is analysed in these slices
abbrev pub printed_from : Job → Lent → List ℕ
printed_from job lent = job_printed job (analysed job lent).answered

-- the steps can be printed, below has places for the sums of the updates, and the listing fits
pub record PlanFits (n mark peak : ℕ) (order pops starts rows below bytes : List ℕ) : Type 0 where
  pub printable : Printable order pops starts rows
  pub wide : length order < length below
  pub fits : length (plan_lines n mark peak order pops starts rows) ≤ length bytes

-- work has places for the sums of the updates, and what is printed fits
pub record PrintFits (job : Job) (lent : Lent) (bytes : List ℕ) : Type 0 where
  pub wide : job.n < length lent.work
  pub fits : length (printed_from job lent) ≤ length bytes
