-- Defines what the test of a job's rows requires.
-- Assumes nothing.
use Rattle.std.specs.Prelude.{ℕ, ◌≤◌, ◌≡◌, List}
use Rattle.papers.specs.Bounds.{max_columns}
use Rattle.papers.specs.Refusals.{passed}
use Rattle.job_laws.specs.Passed.{starts_test}

-- n columns within the bound, whose starts pass 4
pub record Started (n : ℕ) (starts rows : List ℕ) : Type 0 where
  pub few : n ≤ max_columns
  pub starts-pass : starts_test n starts rows ≡ passed
