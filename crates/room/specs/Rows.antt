-- Defines the lengths of lists that follow one another, by their starts, and the entries of the largest front.
-- Assumes nothing.
use Rattle.std.specs.Prelude.{ℕ, ◌+◌, ◌-◌, ◌*◌, ◌/◌, ◌<◌, ◌≤◌, ◌≡◌, List, length, get_or}
use Rattle.papers.specs.Bounds.{max_columns}

-- counts the numbers of the list from start i to the next start
abbrev pub row_count_at : List ℕ → ℕ → ℕ
row_count_at starts i = get_or starts (i + 1) 0 - get_or starts i 0

-- starts holds start i and the next one, which is no less
pub record RisesAt (starts : List ℕ) (i : ℕ) : Type 0 where
  pub known : i + 1 < length starts
  pub rise : get_or starts i 0 ≤ get_or starts (i + 1) 0

-- counts the rows of column j: its factor rows are between its start and the next one, and column 1's start comes first
unfoldable pub row_count_in : List ℕ → ℕ → ℕ
row_count_in factor j = get_or factor j 0 - get_or factor (j - 1) 0

-- factor holds the two starts of column j, which has no more rows than the greatest number of columns
pub record ColumnStarts (factor : List ℕ) (j : ℕ) : Type 0 where
  pub some : 0 < j
  pub known : j < length factor
  pub rise : get_or factor (j - 1) 0 ≤ get_or factor j 0
  pub few : get_or factor j 0 ≤ get_or factor (j - 1) 0 + max_columns

-- r counts the rows of column j, no more than the greatest number of columns
pub record RowsCounted (factor : List ℕ) (j r : ℕ) : Type 0 where
  pub same : r ≡ row_count_in factor j
  pub few : r ≤ max_columns

-- the entries of the largest front, which has one row more than the greatest number of columns
abbrev pub most_entries : ℕ
most_entries = (max_columns + 1) * (max_columns + 2) / 2
