-- Defines the tree and the rows that an order is made from, as slices hold them, and the order in the papers' terms.
-- Assumes nothing.
use Rattle.std.specs.Prelude.{ℕ, ◌+◌, ◌-◌, ◌<◌, ◌≤◌, ◌≡◌, ◌↔◌, length, get_or, take}
use mathlib.Core.List.{List, map, flat_map}
use Rattle.papers.specs.Bounds.{max_columns, max_mark, work_length_for}
use Rattle.papers.specs.Room.{peak_of}
use Rattle.papers.specs.Order.{steps_of}
use Rattle.tree.specs.Parents.{parent_in, TreeIn, kids_in}
use Rattle.room.specs.Rows.{row_count_at, row_count_in}

-- parents name a tree, and factor starts ascend; a column has rows exactly if it has a parent, and no more than the greatest number of columns
pub record Rowed (parents factor : List ℕ) : Type 0 where
  pub tree : TreeIn parents
  pub starts : length factor ≡ length parents + 1
  pub rise : (j : ℕ) → 0 < j → j ≤ length parents → get_or factor (j - 1) 0 ≤ get_or factor j 0
  pub few : (j : ℕ) → 0 < j → j ≤ length parents → row_count_in factor j ≤ max_columns
  pub roots : (j : ℕ) → 0 < j → j ≤ length parents → (row_count_in factor j ≡ 0) ↔ (parent_in parents j ≡ 0)

-- what making the order requires of the mark, the tree, and the lengths of order, pops and work
pub record Given (mark : ℕ) (parents factor : List ℕ) (order pops work : ℕ) : Type 0 where
  pub rowed : Rowed parents factor
  pub columns : length parents ≤ max_columns
  pub marked : mark ≤ max_mark
  pub order-length : order ≡ length parents
  pub pops_length : pops ≡ length parents
  pub work-length : work_length_for (length parents) ≤ work

-- the pops of column j: the number of its children
abbrev pub child_count_in : List ℕ → ℕ → ℕ
child_count_in parents j = length (kids_in parents j)

-- the steps of column j's subtree, siblings by the mark
abbrev pub subtree_steps_in : ℕ → List ℕ → List ℕ → ℕ → List ℕ
subtree_steps_in mark parents factor j = steps_of mark (row_count_in factor) (kids_in parents) (length parents) j

-- the order: the subtrees of the roots, ascending
abbrev pub order_in : ℕ → List ℕ → List ℕ → List ℕ
order_in mark parents factor = flat_map (subtree_steps_in mark parents factor) (kids_in parents 0)

-- the starts of the children's lists: each list has as many places as its column has children
pub record ChildStarts (parents starts : List ℕ) : Type 0 where
  pub count : (j : ℕ) → j ≤ length parents → row_count_at starts j ≡ child_count_in parents j
  pub rise : (j : ℕ) → j ≤ length parents → get_or starts j 0 ≤ get_or starts (j + 1) 0
  pub inside : (j : ℕ) → j ≤ length parents → get_or starts (j + 1) 0 ≤ length parents

-- the steps are written, and the first places of work hold the starts of the children's lists
pub record StepsWritten (mark : ℕ) (parents factor order work : List ℕ) : Type 0 where
  pub steps : order ≡ order_in mark parents factor
  pub starts : ChildStarts parents (take (length parents + 2) work)

-- order holds the order, pops the pops of its steps, and peak is its peak
pub record OrderMade (mark : ℕ) (parents factor order pops : List ℕ) (peak : ℕ) : Type 0 where
  pub steps : order ≡ order_in mark parents factor
  pub counts : pops ≡ map (child_count_in parents) (order_in mark parents factor)
  pub peak-is : peak ≡ peak_of (row_count_in factor) (child_count_in parents) (order_in mark parents factor)
