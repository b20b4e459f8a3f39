-- Defines the tree that a list of parents names, and what the passes over the parents require.
-- Assumes nothing.
use Rattle.std.specs.Prelude.{ℕ, zero, suc, ◌+◌, ◌*◌, ◌^◌, ◌<◌, ◌≤◌, ◌≡◌, List, length, get_or}
use Rattle.papers.specs.Tree.{children}
use Rattle.order_laws.specs.Parents.{Tree}

-- the parent of column j, 0 for a root; the list begins with that of column 1
unfoldable pub parent_in : List ℕ → ℕ → ℕ
parent_in parents zero = 0
parent_in parents (suc i) = get_or parents i 0

-- every parent is a higher column of the list, or 0
abbrev pub TreeIn : List ℕ → Type 0
TreeIn parents = Tree (parent_in parents) (length parents)

-- the children of j, ascending; of 0, the roots
abbrev pub kids_in : List ℕ → ℕ → List ℕ
kids_in parents j = children (parent_in parents) (length parents) j

-- ---- what the passes over the parents require of a tree and the lent slices

-- counts is longer than the columns by this many
pub record Countable (parents counts : List ℕ) (more : ℕ) : Type 0 where
  pub tree : TreeIn parents
  pub long : length counts ≡ length parents + more

-- starts has places for the starts of the lists and the end of the last; list has places for the children, in 32 bits
pub record ChildrenListable (parents starts list : List ℕ) : Type 0 where
  pub tree : TreeIn parents
  pub long : length starts ≡ length parents + 2
  pub wide : length parents ≤ length list
  pub few : length parents < 2 ^ 32

-- the same if the children fill the list, and work has places for the starts and the counts of descendants
pub record Layable (parents list work : List ℕ) : Type 0 where
  pub tree : TreeIn parents
  pub full : length list ≡ length parents
  pub few : length parents < 2 ^ 32
  pub room : 2 * length parents + 3 ≤ length work

-- r is the number at place i, and does not exceed the list's length
pub record NumberRead (list : List ℕ) (i r : ℕ) : Type 0 where
  pub same : r ≡ get_or list i 0
  pub low : r ≤ length list
