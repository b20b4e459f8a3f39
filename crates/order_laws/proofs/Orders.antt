-- Proves that the order of every mark is an order: the subtrees of the roots follow one another, and a column's steps are its children's
-- subtrees and then itself, so each subtree is in one piece.
-- Assumes nothing.
use Prim.Native.Nat.{ℕ, zero, suc, ◌<◌, ◌≤◌}
use mathlib.Core.Path.{◌≡◌}
use mathlib.Core.Logic.{◌↔◌}
use mathlib.Core.List.Memᴰ
use mathlib.Core.List.{List, [], flat_map}
use native.Mathlib.Omega.{arith}
use lib.ListN.{length}
use Rattle.papers.specs.Lists.{◌∈◌, up_to}
use Rattle.papers.specs.Tree.{children}
use Rattle.papers.specs.Order.{Ordered, arranged, steps_of}
use Rattle.fill_laws.proofs.Subtrees.{under-le}
use Rattle.list_laws.proofs.Counts.{same_length}
use Rattle.list_laws.proofs.UpTo.{up_to-range, up_to-into, up_to-distinct, length-up_to}
use Rattle.order_laws.specs.Parents.{Tree}
use Rattle.order_laws.proofs.Trees.{under-range, top_within, rooted}
use Rattle.order_laws.proofs.Subtrees.{children-are, children-of, children-distinct}
use Rattle.order_laws.proofs.Forests.{SubtreeOrder, ForestOrder, forest, column-last}
use Rattle.order_laws.proofs.Arranged.{arranged-elements, arranged-distinct, steps-suc}
use Rattle.order_laws.proofs.Ordering.{valid-ordered}

-- an order of the columns 1 to n has n steps
pub ordered-length : {par : ℕ → ℕ} {n : ℕ} (order : List ℕ) → Ordered par n order → length order ≡ n
ordered-length {par} {n} order o =
    omega (
      arith,
      length-up_to n,
      same_length order (up_to n) o.once (up_to-distinct n) (λ i m. let (l, u) = (o.each i).0 m in up_to-into n i l u)
          (λ i m. (o.each i).1 (up_to-range n i m)),
    )

module _ {par : ℕ → ℕ} {n : ℕ} (tree : Tree par n) (mark : ℕ) (size : ℕ → ℕ) where
  abbrev steps : ℕ → ℕ → List ℕ
  steps f = steps_of mark size (children par n) f

  -- the steps of a column's subtree are an order of it
  pub steps-order : (f j : ℕ) → 0 < j → j ≤ f → SubtreeOrder par j (steps_of mark size (children par n) f j)
  steps-order zero j l u = absurd (omega arith)
  steps-order (suc f) j l u =
      let kin = arranged mark size (children par n) (steps f) j in
      let names : (c : ℕ) → (c ∈ kin) ↔ (par c ≡ j) =
      λ c. (
        λ m. (children-of tree j c l).0 ((arranged-elements mark size (children par n) (steps f) j c).0 m),
        λ e. (arranged-elements mark size (children par n) (steps f) j c).1 ((children-of tree j c l).1 e),
      ) in
      let below : (c : ℕ) → c ∈ kin → SubtreeOrder par c (steps f c) =
      λ c m. let k =
      (children-are par n j c).0 ((arranged-elements mark size (children par n) (steps f) j c).0 m) in
      steps-order f c k.0 (omega (arith, k.2, tree.above c (omega (arith, k.2)))) in
      rw (steps-suc mark size (children par n) f j)
      (column-last tree j kin (flat_map (steps f) kin) l names
      (forest tree j (steps f) kin (arranged-distinct mark size (children par n) (steps f) j (children-distinct par n j))
      (λ c m. ((names c).0 m, below c m))))

  roots-order : ForestOrder par (children par n 0) (flat_map (steps n) (children par n 0))
  roots-order =
      forest tree 0 (steps n) (children par n 0) (children-distinct par n 0)
      (λ c m. let (l, u, e) = (children-are par n 0 c).0 m in (e, steps-order n c l u))

  -- the subtrees of the roots, ascending, with siblings by any mark, are an order of the columns
  pub marked-ordered : Ordered par n (flat_map (steps_of mark size (children par n) n) (children par n 0))
  marked-ordered =
      valid-ordered tree (flat_map (steps n) (children par n 0)) (λ x. (from x, λ r. into x r.0 r.1))
      (roots-order.valid [] (λ c x m s k. Memᴰ.not-nil k))
    where
      from : (x : ℕ) → x ∈ flat_map (steps n) (children par n 0) → (1 ≤ x) × (x ≤ n)
      from x m =
          let (c, k, s) = roots-order.from x m in
          let (l, u, e) = (children-are par n 0 c).0 k in
          under-range tree c x l u s

      into : (x : ℕ) → 1 ≤ x → x ≤ n → x ∈ flat_map (steps n) (children par n 0)
      into x l u =
          let r = rooted tree x in
          roots-order.into r.root x ((children-are par n 0 r.root).1 (
            omega (arith, under-le par tree.above r.root x r.under),
            top_within tree r.root x u r.under,
            r.free,
          )) r.under
