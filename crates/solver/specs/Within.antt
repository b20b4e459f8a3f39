-- Defines what the check for a key's job requires.
-- Assumes nothing.
use Rattle.std.specs.Prelude.{ℕ, ◌≤◌, List}
use Rattle.papers.specs.Bounds.{program_columns, program_rows}
use Rattle.papers.specs.declared.JobHead.{JobHead}
use Rattle.read_key.specs.Keys.{KeyParts}

-- a key that was read through, whose columns and pattern rows are within the program's sizes
pub record WithinSizes (key : List ℕ) (head : JobHead) (count at : ℕ) : Type 0 where
  pub parts : KeyParts key head count at
  pub columns-fit : head.n ≤ program_columns
  pub rows_fit : count ≤ program_rows
