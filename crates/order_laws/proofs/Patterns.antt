-- Proves that the parents of a pattern form a forest, and that each mark gives an order of its columns.
-- Assumes nothing.
use Prim.Native.Nat.{ℕ, ◌-◌, ◌≤◌}
use mathlib.Core.Path.{◌≡◌, refl}
use mathlib.Core.Logic.{◌↔◌}
use mathlib.Core.List.Memᴰ
use mathlib.Core.List.{List, [], ◌∷◌}
use native.Mathlib.Omega.{arith}
use lib.ListN.{length}
use Rattle.papers.specs.Lists.{head0}
use Rattle.papers.specs.Job.{Pattern, Below}
use Rattle.papers.specs.Fill.{R}
use Rattle.papers.specs.Tree.{parent, row_count}
use Rattle.papers.specs.Order.{Ordered, order_of}
use Rattle.list_laws.proofs.Ascending.{asc-length}
use Rattle.fill_laws.proofs.Fill.{R-asc, R-range}
use Rattle.fill_laws.proofs.Parents.{parent_above, parent-within}
use Rattle.order_laws.specs.Parents.{Tree}
use Rattle.order_laws.proofs.Orders.{ordered-length, marked-ordered}

module _ {n : ℕ} {A : Pattern} (below : Below n A) where
  pub tree_of : Tree (parent A) n
  unfolding parent R head0
  tree_of = record { none = refl; above = parent_above below; within = parent-within below }

  -- a root is a column without rows
  pub root-rows : (j : ℕ) → (row_count A j ≡ 0) ↔ (parent A j ≡ 0)
  unfolding parent head0
  root-rows j = go (R A j) refl
    where
      go : (l : List ℕ) → R A j ≡ l → (length l ≡ 0) ↔ (head0 l ≡ 0)
      go [] e = (λ q. refl, λ q. refl)
      go (x ∷ xs) e = (λ q. absurd (omega arith), λ q. absurd (omega (arith, R-range below j x (rw e (Memᴰ.head refl)))))

  -- above j there are n - j columns
  pub rows_fit : (j : ℕ) → row_count A j ≤ n - j
  rows_fit j = asc-length n j (R A j) (R-asc below j) (λ i m. (R-range below j i m).1)

  -- the order of every mark is an order of the columns
  pub order-ordered : (mark : ℕ) → Ordered (parent A) n (order_of mark n A)
  unfolding order_of
  order-ordered mark = marked-ordered tree_of mark (row_count A)

  pub order-length : (mark : ℕ) → length (order_of mark n A) ≡ n
  order-length mark = ordered-length (order_of mark n A) (order-ordered mark)
