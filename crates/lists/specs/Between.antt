-- Defines when a column's rows can be taken from lists.
-- Assumes nothing.
use Rattle.std.specs.Prelude.{ℕ, ◌+◌, ◌<◌, ◌≤◌, List, length, get_or}

-- the rows of column m + 1 are between its two starts
pub record RowsBetween (m : ℕ) (starts rows : List ℕ) : Type 0 where
  pub started : m + 1 < length starts
  pub rises : get_or starts m 0 ≤ get_or starts (m + 1) 0
  pub ends : get_or starts (m + 1) 0 ≤ length rows
