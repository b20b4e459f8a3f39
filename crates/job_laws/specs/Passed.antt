-- Defines what a job that passes 1 to 6 is, and lists that pass 4 to 6; and the verdicts on starts and rows that are handed over by themselves.
-- Assumes nothing.
use Rattle.std.specs.Prelude.{ℕ, suc, ◌+◌, ◌≤◌, ◌≡◌, List, length}
use Rattle.papers.specs.Bounds.{max_columns, max_mark, max_limit}
use Rattle.papers.specs.Lists.{◌∈◌, Asc}
use Rattle.papers.specs.Refusals.{Verdict}
use Rattle.papers.specs.Job.{Job, start, column_of, bad_starts, bad_row}

-- starts that pass: n + 1 of them, from 0 up to the row count
pub record Starts (n : ℕ) (starts rows : List ℕ) : Type 0 where
  pub long : length starts ≡ n + 1
  pub from_zero : start starts 1 ≡ 0
  pub rising : (j : ℕ) → 1 ≤ j → j ≤ n → start starts j ≤ start starts (suc j)
  pub last : start starts (suc n) ≡ length rows

-- lists that pass 4, 5 and 6: a job's pattern, and the factor that a run is given
pub record PassedLists (n : ℕ) (starts rows : List ℕ) : Type 0 where
  pub whole : Starts n starts rows
  pub ascending : (j : ℕ) → 1 ≤ j → j ≤ n → Asc j (column_of starts rows j)
  pub within : (j : ℕ) → 1 ≤ j → j ≤ n → (i : ℕ) → i ∈ column_of starts rows j → i ≤ n

-- a job that passes 1 to 6
pub record Passed (job : Job) : Type 0 where
  pub few : job.n ≤ max_columns
  pub marked : job.mark ≤ max_mark
  pub limited : job.limit ≤ max_limit
  pub lists : PassedLists job.n job.starts job.rows

-- the verdict on the starts of n columns: 4, or passed
abbrev pub starts_test : ℕ → List ℕ → List ℕ → Verdict
starts_test n starts rows = bad_starts.test (record { n = n; starts = starts; rows = rows })

-- the verdict on the rows of n columns: 5 or 6, or passed
abbrev pub rows_test : ℕ → List ℕ → List ℕ → Verdict
rows_test n starts rows = bad_row.test (record { n = n; starts = starts; rows = rows })
