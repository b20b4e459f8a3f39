-- Defines the rows of a list that are not marked yet, marks that are exactly those of a list, the rows of R(m + 1) marked and counted, and the test
-- of a list against R(m + 1).
-- Assumes nothing.
use Rattle.std.specs.Prelude.{ℕ, ◌+◌, ◌≤◌, ◌≡◌, Bool, not, List, length, get_or}
use Rattle.papers.specs.Lists.{◌∈◌, Asc, Distinct, keep, same}
use Rattle.papers.specs.Job.{Pattern}
use Rattle.papers.specs.Fill.{R}
use Rattle.child_lists.specs.Marks.{marked, is_marked, Markable, MarkedWithin, Changed}
use Rattle.column_list.specs.Stored.{Next}

-- the rows of a list that are not marked for column j
abbrev pub new_rows : ℕ → ℕ → List ℕ → List ℕ → List ℕ
new_rows n j work l = keep (λ i. not (is_marked n j work i)) l

-- a list without repeats; work has places for the marks of its rows
pub record MarkableOnce (n : ℕ) (list work : List ℕ) : Type 0 where
  pub once : Distinct list
  pub markable : Markable n list work

-- its rows are marked, and r of them were not marked before
pub record MarkedNew (n j : ℕ) (list work₀ work : List ℕ) (r : ℕ) : Type 0 where
  pub counts : r ≡ length (new_rows n j work₀ list)
  pub marks : work ≡ marked n j list work₀

-- exactly the rows of a list are marked for column j
pub record MarkedAre (n j : ℕ) (work l : List ℕ) : Type 0 where
  pub sound : MarkedWithin n j work l
  pub all : (i : ℕ) → i ∈ l → get_or work (n + n + i) 0 ≡ j

-- count is the number of rows of R(m + 1), exactly these rows are marked, and work has changed only in marks
pub record Counted (n m : ℕ) (A : Pattern) (work₀ work : List ℕ) (count : ℕ) : Type 0 where
  pub counts : count ≡ length (R A (m + 1))
  pub marks : MarkedAre n (m + 1) work (R A (m + 1))
  pub changed : Changed n (m + 1) work₀ work

-- column m + 1 comes next, and the list ascends above it, up to n
pub record ListComparable (n m : ℕ) (list starts rows fstarts frows work : List ℕ) : Type 0 where
  pub next : Next n m starts rows fstarts frows work
  pub ascending : Asc (m + 1) list
  pub within : (i : ℕ) → i ∈ list → i ≤ n

-- r says whether the list is R(m + 1); work has changed only in marks
pub record Compared (n m : ℕ) (list : List ℕ) (A : Pattern) (work₀ work : List ℕ) (r : Bool) : Type 0 where
  pub answers : r ≡ same list (R A (m + 1))
  pub changed : Changed n (m + 1) work₀ work
