-- Proves what W and the steps of a subtree are, from those of its children.
-- Assumes nothing.
use Prim.Native.Nat.{ℕ, zero, suc, ◌+◌, ◌<◌, ◌≤◌, max}
use mathlib.Core.Path.{◌≡◌, refl, ap, ◌∙◌}
use mathlib.Core.Logic.{◌↔◌}
use mathlib.Core.List.Memᴰ
use mathlib.Core.List.{[], ◌∷◌, ◌++◌, flat_map}
use native.Mathlib.Omega.{arith}
use Rattle.papers.specs.Lists.{◌∈◌, Distinct}
use Rattle.papers.specs.Job.{Pattern, Below}
use Rattle.papers.specs.Tree.{t, parent, row_count, Under}
use Rattle.papers.specs.Room.{peak_of}
use Rattle.papers.specs.Order.{alone, arranged, steps_of, children_of, pops_of, W, order_of}
use Rattle.order_laws.specs.Subtrees.{Kin, in_turn, update_but_last, subtree_steps, siblings_of}
use Rattle.order_laws.proofs.Triangles.{t-suc}
use Rattle.order_laws.proofs.Subtrees.{children-are}
use Rattle.order_laws.proofs.Forests.{SubtreeOrder}
use Rattle.order_laws.proofs.Ordering.{valid-distinct}
use Rattle.order_laws.proofs.Arranged.{steps-suc, steps-enough}
use Rattle.order_laws.proofs.Orders.{steps-order}
use Rattle.order_laws.proofs.Patterns.{tree_of, root-rows}
use Rattle.order_laws.proofs.Needs.{need-children}

-- the order consists of the subtrees of the roots, by ascending number
pub order-roots : (mark n : ℕ) (A : Pattern) → order_of mark n A ≡ flat_map (subtree_steps mark n A) (children_of n A 0)
unfolding order_of subtree_steps
order-roots mark n A = refl

-- W(j) is the peak of the steps of j's subtree
pub W-peak : (mark n : ℕ) (A : Pattern) (j : ℕ) → W mark n A j ≡ peak_of (row_count A) (pops_of n A) (subtree_steps mark n A j)
unfolding W alone subtree_steps
W-peak mark n A j = refl

module _ {n : ℕ} {A : Pattern} (below : Below n A) where
  -- children are lower columns and have rows
  pub kin-of : Kin (row_count A) (children_of n A)
  kin-of = record {
    lower = λ j c z m. let (l, u, e) = (children-are (parent A) n j c).0 m in (l, omega (arith, (tree_of below).above c (omega arith)));
    update = λ j c z m. let (l, u, e) = (children-are (parent A) n j c).0 m in rows c (omega arith) (row_count A c) refl;
  }
    where
      rows : (c : ℕ) → 0 < parent A c → (r : ℕ) → row_count A c ≡ r → 0 < r
      rows c h zero e = absurd (omega (arith, (root-rows below c).0 e))
      rows c h (suc r) e = omega arith

  module _ (mark : ℕ) (j : ℕ) (l : 0 < j) (u : j ≤ n) where
    deeper : steps_of mark (row_count A) (children_of n A) n j ≡ steps_of mark (row_count A) (children_of n A) (suc n) j
    deeper = steps-enough mark (row_count A) (children_of n A) kin-of.lower n (suc n) j l u (omega arith)

    -- a subtree's steps are those of its children's subtrees, by the mark, and then its top
    pub subtree-children : subtree_steps mark n A j ≡ flat_map (subtree_steps mark n A) (siblings_of mark n A j) ++ (j ∷ [])
    unfolding subtree_steps siblings_of W arranged alone
    subtree-children = deeper ∙ steps-suc mark (row_count A) (children_of n A) n j

    -- W(j): the children need theirs in turn, each above the updates of the earlier ones; then the front is put over the last update
    pub W-children : W mark n A j ≡ max (in_turn (row_count A) (W mark n A) 0 (siblings_of mark n A j))
        (update_but_last (row_count A) (siblings_of mark n A j) + t
        (suc (row_count A j)))
    unfolding siblings_of W arranged alone
    W-children = ap (peak_of (row_count A) (pops_of n A)) deeper ∙ need-children mark (row_count A) (children_of n A) kin-of n j l (omega arith)

    -- the entries of the update are part of W
    pub W-update : t (row_count A j) ≤ W mark n A j
    W-update = rw W-children (omega (arith, t-suc (row_count A j)))

    order-of : SubtreeOrder (parent A) j (steps_of mark (row_count A) (children_of n A) n j)
    order-of = steps-order (tree_of below) mark (row_count A) n j l u

    -- the steps of a subtree are its columns
    pub subtree-columns : (x : ℕ) → (x ∈ subtree_steps mark n A j) ↔ Under (parent A) j x
    unfolding subtree_steps
    subtree-columns x = order-of.all x

    -- each column of a subtree has one step in it
    pub subtree-once : Distinct (subtree_steps mark n A j)
    unfolding subtree_steps
    subtree-once =
        (valid-distinct (parent A) (steps_of mark (row_count A) (children_of n A) n j) [] (order-of.valid [] (λ x s m. Memᴰ.not-nil m))).0
