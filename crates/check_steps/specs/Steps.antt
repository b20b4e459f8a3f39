-- Defines steps of known columns, and a step that pops more or fewer updates than its column has children.
-- Assumes nothing.
use Rattle.std.specs.Prelude.{ℕ, ◌+◌, ◌-◌, ◌<◌, ◌≤◌, ◌≡◌, Bool, not, List, eqb, length, get_or}
use Rattle.papers.specs.Bounds.{max_columns}
use Rattle.papers.specs.Order.{column_at_step}
use Rattle.tree.specs.Parents.{TreeIn, kids_in}

-- every number of the list is a column, from 1 to n
abbrev pub Within : ℕ → List ℕ → Type 0
Within n order = (k : ℕ) → k < length order → (1 ≤ get_or order k 0) × (get_or order k 0 ≤ n)

-- the steps name known columns, and work has a place for the mark of each
pub record StepsMarkable (order work : List ℕ) : Type 0 where
  pub columns : Within (length order) order
  pub few : length order ≤ max_columns
  pub room : length order < length work

-- a tree, as many steps of known columns with their pops, and work has places for the numbers of children
pub record PopsComparable (parents order pops work : List ℕ) : Type 0 where
  pub tree : TreeIn parents
  pub columns : Within (length order) order
  pub order-length : length order ≡ length parents
  pub pops_length : length pops ≡ length parents
  pub few : length parents ≤ max_columns
  pub room : length parents + 1 < length work

-- 19: the pops of step s are not the number of its column's children
abbrev pub pops_differ : List ℕ → List ℕ → List ℕ → ℕ → Bool
pops_differ parents order pops s = not (eqb (get_or pops (s - 1) 0) (length (kids_in parents (column_at_step order s))))
