-- Proves that the mark's order of a column's children has exactly these children, by descending key, and of equal keys the lower number
-- first.
-- Assumes nothing.
use Prim.Native.Nat.{ℕ}
use mathlib.Core.Path.{◌≡◌, refl}
use mathlib.Core.Logic.{◌↔◌}
use lib.ListN.{length}
use Rattle.papers.specs.Lists.{◌∈◌}
use Rattle.papers.specs.Job.{Pattern}
use Rattle.papers.specs.Tree.{parent, row_count}
use Rattle.papers.specs.Order.{sibling_key_of, children_of, pops_of, W}
use Rattle.list_laws.specs.Sorted.{Sorted}
use Rattle.list_laws.proofs.Sorts.{sort-elements, sort-length}
use Rattle.list_laws.proofs.SortOrder.{sort_sorted, sort-level}
use Rattle.order_laws.specs.Subtrees.{siblings_of}
use Rattle.order_laws.proofs.Subtrees.{children-asc}

-- siblings are in the order of descending keys of the mark, and of equal keys the lower number is first
pub siblings-by-mark : (mark n : ℕ) (A : Pattern) (j : ℕ)
    → Sorted (λ c. sibling_key_of mark (row_count A j) (row_count A c) (W mark n A c)) (siblings_of mark n A j)
unfolding siblings_of
siblings-by-mark mark n A j = sort_sorted _ 0 (children_of n A j) (children-asc (parent A) n j)

-- with mark 0 the numbers of siblings ascend
pub siblings-ascend : (n : ℕ) (A : Pattern) (j : ℕ) → siblings_of 0 n A j ≡ children_of n A j
unfolding siblings_of sibling_key_of
siblings-ascend n A j = sort-level _ (λ c. refl) (children_of n A j)

pub siblings-are : (mark n : ℕ) (A : Pattern) (j c : ℕ) → (c ∈ siblings_of mark n A j) ↔ (c ∈ children_of n A j)
unfolding siblings_of
siblings-are mark n A j c = sort-elements _ c (children_of n A j)

pub siblings-count : (mark n : ℕ) (A : Pattern) (j : ℕ) → length (siblings_of mark n A j) ≡ pops_of n A j
unfolding siblings_of
siblings-count mark n A j = sort-length _ (children_of n A j)
