-- Defines the columns of a factor.
-- Assumes nothing.
use Rattle.std.specs.Prelude.{ℕ, ◌≤◌, List}
use Rattle.column_laws.specs.Tested.{Tested}

-- a column of 1 to n
pub record Column (n c : ℕ) : Type 0 where
  pub low : 1 ≤ c
  pub high : c ≤ n

-- a column of a factor that passes 1, 4, 5 and 6
pub record ColumnIn (n : ℕ) (starts rows : List ℕ) (c : ℕ) : Type 0 where
  pub tested : Tested n starts rows
  pub column : Column n c
