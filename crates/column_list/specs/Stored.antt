-- Defines the state between two columns: the lists made so far, the starts of these lists, and the columns hung under their parents.
-- Assumes nothing.
use Rattle.std.specs.Prelude.{ℕ, ◌+◌, ◌<◌, ◌≤◌, ◌≡◌, List, length, get_or, take}
use Rattle.papers.specs.Lists.{flat}
use Rattle.papers.specs.Job.{Pattern, column_of}
use Rattle.papers.specs.Fill.{R}
use Rattle.papers.specs.Key.{lists_of}
use Rattle.column_laws.specs.Tested.{Tested}
use Rattle.column_laws.specs.Chains.{Chain}
use Rattle.child_lists.specs.Marks.{Changed, Fresh}
use Rattle.child_lists.specs.Buffers.{Holds}
use Rattle.column_list.specs.Hung.{hung}

-- the rows of the lists of the columns 1 to m
abbrev pub rows_to : Pattern → ℕ → List ℕ
rows_to A m = flat (lists_of m (R A))

-- the state after m columns
pub record ListsStored (n m : ℕ) (A : Pattern) (fstarts frows work : List ℕ) : Type 0 where
  pub rows_fit : length (rows_to A m) ≤ length frows
  pub rows_are : take (length (rows_to A m)) frows ≡ rows_to A m
  pub starts-long : n < length fstarts
  pub starts-are : (k : ℕ) → k ≤ m → get_or fstarts k 0 ≡ length (rows_to A k)
  pub chains : (j : ℕ) → 1 ≤ j → j ≤ n → Chain work n (get_or work j 0) (hung A m j)
  pub fresh : Fresh n m work
  pub work-long : n + n + n < length work

-- m columns of a tested job are done, and column m + 1 comes next
pub record Next (n m : ℕ) (starts rows fstarts frows work : List ℕ) : Type 0 where
  pub tested : Tested n starts rows
  pub column : m < n
  pub stored : ListsStored n m (column_of starts rows) fstarts frows work

-- two buffers are lent for its list
pub record Gatherable (n m : ℕ) (starts rows fstarts frows work x y : List ℕ) : Type 0 where
  pub next : Next n m starts rows fstarts frows work
  pub room-x : n ≤ length x
  pub room-y : n ≤ length y

-- the buffers hold its list; work has changed only in marks
pub record Gathers (n m : ℕ) (A : Pattern) (work₀ work x y : List ℕ) (turn len : ℕ) : Type 0 where
  pub holds : Holds turn len x y (R A (m + 1))
  pub changed : Changed n (m + 1) work₀ work

-- each buffer holds len rows
pub record Buffered (len : ℕ) (x y : List ℕ) : Type 0 where
  pub in-x : len ≤ length x
  pub in-y : len ≤ length y
