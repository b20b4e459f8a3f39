-- Defines the list that a column's rows and the rows its children hand on make, and the state before and after the children are joined.
-- Assumes nothing.
use Rattle.std.specs.Prelude.{ℕ, ◌+◌, ◌<◌, ◌≤◌, ◌⊎◌, List, length, get_or, take}
use Rattle.papers.specs.Lists.{◌∈◌, Asc}
use Rattle.linked_children.specs.Children.{handed_rows, Siblings}
use Rattle.child_lists.specs.Marks.{MarkedWithin, Changed}
use Rattle.child_lists.specs.Buffers.{Holds}

-- acc and the rows that the children hand on make the ascending list whole
pub record Makes (j : ℕ) (hands : ℕ → List ℕ) (children acc whole : List ℕ) : Type 0 where
  pub asc : Asc j acc
  pub asc-whole : Asc j whole
  pub asc-hands : (d : ℕ) → d ∈ children → Asc j (hands d)
  pub acc-in : (i : ℕ) → i ∈ acc → i ∈ whole
  pub hands_in : (d i : ℕ) → d ∈ children → i ∈ hands d → i ∈ whole
  pub made : (i : ℕ) → i ∈ whole → (i ∈ acc) ⊎ ((d : ℕ) × ((d ∈ children) × (i ∈ hands d)))

-- x holds the beginning of column j's list, its rows are marked, and the children from c on are still to be joined
pub record ListBegun (n j c len : ℕ) (fstarts frows work x y children whole : List ℕ) : Type 0 where
  pub siblings : Siblings n c fstarts work children
  pub ends : (d : ℕ) → d ∈ children → get_or fstarts d 0 ≤ length frows
  pub makes : Makes j (handed_rows fstarts frows) children (take len x) whole
  pub most : (i : ℕ) → i ∈ whole → i ≤ n
  pub few : len ≤ length x
  pub sound : MarkedWithin n j work (take len x)
  pub room-x : n ≤ length x
  pub room-y : n ≤ length y
  pub room-work : n + n + n < length work

pub record Joining (n j c len : ℕ) (fstarts frows work x y : List ℕ) : Type 0 where
  pub children : List ℕ
  pub whole : List ℕ
  pub begun : ListBegun n j c len fstarts frows work x y children whole

-- the buffers hold the list of column j; work has changed only in marks, which were set to j
pub record ChildrenJoined (n j c len₀ : ℕ) (fstarts frows work₀ x₀ y₀ : List ℕ) (turn len : ℕ) (work x y : List ℕ) : Type 0 where
  pub list : (children whole : List ℕ) → ListBegun n j c len₀ fstarts frows work₀ x₀ y₀ children whole
      → Holds turn len x y whole
  pub changed : Changed n j work₀ work
