-- Defines what the writer of a job's lists requires, and the end of a run of rows.
-- Assumes nothing.
use Rattle.std.specs.Prelude.{ℕ, ◌^◌, ◌<◌, ◌≤◌, ◌≡◌, List}
use Rattle.papers.specs.Bounds.{max_columns}
use Rattle.papers.specs.Refusals.{passed}
use Rattle.job_laws.specs.Passed.{starts_test, rows_test}

-- r ends a run of rows from i on, in a list that ends at `to`
pub record RunEnd (i to r : ℕ) : Type 0 where
  pub past : i < r
  pub within : r ≤ to

-- the lists of n columns pass their tests, and can be written from `at` on
pub record ListsNear (n : ℕ) (starts rows : List ℕ) (at : ℕ) : Type 0 where
  pub few : n ≤ max_columns
  pub starts-pass : starts_test n starts rows ≡ passed
  pub rows_pass : rows_test n starts rows ≡ passed
  pub near : at < 2 ^ 60
