-- Proves that an order of n different columns names all columns, and that a column's subtree has one column more than the column has descendants.
-- Assumes nothing.
use Prim.Native.Nat.{ℕ, ◌+◌, ◌≤◌}
use mathlib.Core.Path.{◌≡◌}
use mathlib.Core.Logic.{◌↔◌}
use mathlib.Core.List.Memᴰ
use mathlib.Core.List.{List, []}
use native.Mathlib.Omega.{arith}
use lib.ListN.{length, get_or}
use Rattle.papers.specs.Lists.{◌∈◌, Distinct, up_to}
use Rattle.papers.specs.Tree.{subtree_of}
use Rattle.papers.specs.Order.{steps_of}
use Rattle.list_laws.proofs.Counts.{distinct-length, same_length, all_there}
use Rattle.list_laws.proofs.UpTo.{up_to-into, length-up_to}
use Rattle.order_laws.proofs.Trees.{under-range}
use Rattle.order_laws.proofs.Subtrees.{subtree-is, subtree-distinct}
use Rattle.order_laws.proofs.Ordering.{valid-distinct}
use Rattle.order_laws.proofs.Orders.{steps-order}
use Rattle.tree.specs.Parents.{parent_in, TreeIn, kids_in}
use Rattle.tree.specs.Blocks.{block_of}
use Rattle.tree.specs.Laid.{Descendants}
use Rattle.tree.proofs.Children.{kids-lower}
use Rattle.tree.proofs.Blocks.{block-count}
use Rattle.check_subtrees.specs.Steps.{EachOnce}

-- an order of n different columns of 1 to n names each of them
pub order-has : {n : ℕ} {order : List ℕ} → EachOnce n order → length order ≡ n → (j : ℕ) → (j ∈ order) ↔ ((1 ≤ j) × (j ≤ n))
order-has {n} {order} o long j = (
  o.range j,
  λ (l, u). all_there order (up_to n) o.once (λ i m. let (a, b) = o.range i m in up_to-into n i a b) (omega (arith, length-up_to n)) j
      (up_to-into n j l u),
)

module _ (parents : List ℕ) (tree : TreeIn parents) (j : ℕ) (l : 1 ≤ j) (u : j ≤ length parents) where
  -- a column's block of steps names the columns of its subtree, each once
  block-subtree : length (block_of (kids_in parents) j) ≡ length (subtree_of (parent_in parents) (length parents) j)
  unfolding block_of
  block-subtree =
      let o = steps-order tree 0 (λ c. 0) j j l (omega arith) in
      let v = steps_of 0 (λ c. 0) (kids_in parents) j j in
      let d : Distinct v = (valid-distinct (parent_in parents) v [] (o.valid [] (λ x s m. Memᴰ.not-nil m))).0 in
      same_length v (subtree_of (parent_in parents) (length parents) j) d (subtree-distinct (parent_in parents) (length parents) j)
      (λ x m. (subtree-is tree j x l u).1 ((o.all x).0 m)) (λ x m. (o.all x).1 ((subtree-is tree j x l u).0 m))

  pub subtree-count : (counts : List ℕ) → Descendants parents counts → length (subtree_of (parent_in parents) (length parents) j) ≡ get_or counts j 0 + 1
  subtree-count counts d = omega (arith, block-subtree, block-count (kids_in parents) (kids-lower parents tree) j l, d.each j u)

  -- a subtree has no more columns than there are
  pub subtree-few : length (subtree_of (parent_in parents) (length parents) j) ≤ length parents
  subtree-few =
      omega (
        arith,
        length-up_to (length parents),
        distinct-length (subtree_of (parent_in parents) (length parents) j) (up_to (length parents))
            (subtree-distinct (parent_in parents) (length parents) j)
            (λ x m. let (a, b) = under-range tree j x l u ((subtree-is tree j x l u).0 m) in up_to-into (length parents) x a b),
      )
