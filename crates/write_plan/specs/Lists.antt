-- Defines the plan that lists hold: what its writer is given, and what it requires of that.
-- Assumes nothing.
use Rattle.std.specs.Prelude.{ℕ, ◌^◌, ◌<◌, ◌≤◌, ◌≡◌, List, [], ◌∷◌, length}
use Rattle.papers.specs.Bounds.{max_columns, max_peak}
use Rattle.papers.specs.Refusals.{passed}
use Rattle.papers.specs.Job.{Job, column_of}
use Rattle.papers.specs.Key.{lists_of}
use Rattle.job_laws.specs.Passed.{Passed, starts_test, rows_test}
use Rattle.papers.specs.Plan.{Plan}

-- pairs the columns and the pops of two lists to steps
unfoldable pub step_pairs : List ℕ → List ℕ → List (ℕ × ℕ)
step_pairs [] pops = []
step_pairs (j ∷ order) [] = []
step_pairs (j ∷ order) (p ∷ pops) = (j, p) ∷ step_pairs order pops

-- the plan of n columns with these steps, the lists between these starts, and this peak
abbrev pub plan_in : ℕ → List ℕ → List ℕ → List ℕ → List ℕ → ℕ → Plan
plan_in n order pops starts rows peak = record { steps = step_pairs order pops; lists = lists_of n (column_of starts rows); peak = peak }

-- the steps can be written from `at` on: each has its pops, and they do not exceed the greatest number of columns
pub record StepsNear (order pops : List ℕ) (at : ℕ) : Type 0 where
  pub paired : length order ≤ length pops
  pub few : length order ≤ max_columns
  pub near : at < 2 ^ 59

-- what a plan of a job is written from: a step for each column, lists that pass 4 to 6, and a peak that a plan may declare
pub record Writable (job : Job) (order pops starts rows : List ℕ) (peak : ℕ) : Type 0 where
  pub passes : Passed job
  pub all-steps : length order ≡ job.n
  pub all-pops : length pops ≡ job.n
  pub starts-pass : starts_test job.n starts rows ≡ passed
  pub rows_pass : rows_test job.n starts rows ≡ passed
  pub declared : peak ≤ max_peak
