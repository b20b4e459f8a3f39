-- Defines the tree of parents: parent, front and update of a column, its children and its subtree.
-- Assumes nothing.
use Rattle.std.specs.Prelude.{ℕ, zero, suc, ◌+◌, ◌*◌, ◌/◌, ◌<◌, Bool, true, false, List, ◌∷◌, eqb, length}
use Rattle.papers.specs.Lists.{head0, keep, up_to}
use Rattle.papers.specs.Job.{Pattern}
use Rattle.papers.specs.Fill.{R}

-- the parent of j is the smallest of its rows; a column without rows is a root, and its parent is 0
unfoldable pub parent : Pattern → ℕ → ℕ
parent A j = head0 (R A j)

-- the front of j: the column's own number before its rows
abbrev pub front : Pattern → ℕ → List ℕ
front A j = j ∷ R A j

-- the update of j: R(j)
abbrev pub update : Pattern → ℕ → List ℕ
update A j = R A j

-- the number of rows of R(j)
abbrev pub row_count : Pattern → ℕ → ℕ
row_count A j = length (R A j)

-- t(r): the entries of a lower triangle of r rows
unfoldable pub t : ℕ → ℕ
t r = r * (r + 1) / 2

-- the children of j among the columns 1 to n, ascending; the children of 0 are the roots
unfoldable pub children : (ℕ → ℕ) → ℕ → ℕ → List ℕ
children par n j = keep (λ c. eqb (par c) j) (up_to n)

-- k is in the subtree whose top is j: k is j, or the parent of k is in it
pub data Under (par : ℕ → ℕ) (j : ℕ) : ℕ → Type 0 where
  top : Under par j j
  up : {k : ℕ} → 0 < par k → Under par j (par k) → Under par j k

-- tests whether k is in the subtree of j, climbing at most f parents; a parent is above its column, so n climbs lead to any top
unfoldable pub is_under : (ℕ → ℕ) → ℕ → ℕ → ℕ → Bool
is_under par zero j k = eqb k j
is_under par (suc f) j k = elim (eqb k j) [ true ↦ true | false ↦ elim (eqb (par k) 0) [ true ↦ false | false ↦ is_under par f j (par k) ] ]

-- the columns of 1 to n that are in the subtree of j
unfoldable pub subtree_of : (ℕ → ℕ) → ℕ → ℕ → List ℕ
subtree_of par n j = keep (is_under par n j) (up_to n)
