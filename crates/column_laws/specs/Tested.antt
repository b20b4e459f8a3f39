-- Defines what the tests of a job say of its lists.
-- Assumes nothing.
use Rattle.std.specs.Prelude.{ℕ, ◌≤◌, ◌≡◌, List}
use Rattle.papers.specs.Bounds.{max_columns}
use Rattle.papers.specs.Refusals.{passed}
use Rattle.job_laws.specs.Passed.{starts_test, rows_test}

-- n columns whose starts and rows pass 1, 4, 5 and 6
pub record Tested (n : ℕ) (starts rows : List ℕ) : Type 0 where
  pub few : n ≤ max_columns
  pub starts-pass : starts_test n starts rows ≡ passed
  pub rows_pass : rows_test n starts rows ≡ passed
