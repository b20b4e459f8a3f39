-- Proves that the list of a column's children, and that of its subtree, has exactly the columns that it should have, each once.
-- Assumes nothing.
use Prim.Native.Nat.{ℕ, zero, suc, ◌+◌, ◌<◌, ◌≤◌}
use mathlib.Core.Path.{◌≡◌, refl}
use mathlib.Core.Logic.{◌↔◌, ◌≢◌}
use mathlib.Core.Bool.{true}
use native.Mathlib.Omega.{arith}
use lib.Dec.{eqb}
use borrow.Author.Tests.{eqb-true, eqb-false, eq-eqb, ne_eqb}
use Rattle.papers.specs.Lists.{◌∈◌, Asc, Distinct, up_to}
use Rattle.papers.specs.Tree.{children, Under, top, up, is_under, subtree_of}
use Rattle.list_laws.proofs.Tests.{Test, passes, fails, test, true-false}
use Rattle.list_laws.proofs.Ascending.{asc-distinct}
use Rattle.list_laws.proofs.Keeps.{keep-from, keep-into, keep-asc, keep-distinct}
use Rattle.list_laws.proofs.UpTo.{up_to-range, up_to-into, up_to-asc, up_to-distinct}
use Rattle.order_laws.specs.Parents.{Tree}
use Rattle.order_laws.proofs.Trees.{under-range}

-- the children of j are the columns of 1 to n whose parent is j
pub children-are : (par : ℕ → ℕ) (n j x : ℕ) → (x ∈ children par n j) ↔ ((1 ≤ x) × (x ≤ n) × (par x ≡ j))
unfolding children
children-are par n j x = (
  λ m. let (a, b) = keep-from (λ c. eqb (par c) j) (up_to n) m in let (l, u) = up_to-range n x a in (l, u, eqb-true (par x) j b),
  λ (l, u, e). keep-into (λ c. eqb (par c) j) (up_to n) (up_to-into n x l u) (eq-eqb (par x) j e),
)

-- the children ascend
pub children-asc : (par : ℕ → ℕ) (n j : ℕ) → Asc 0 (children par n j)
unfolding children
children-asc par n j = keep-asc (λ c. eqb (par c) j) 0 (up_to n) (up_to-asc n)

pub children-distinct : (par : ℕ → ℕ) (n j : ℕ) → Distinct (children par n j)
children-distinct par n j = asc-distinct 0 (children par n j) (children-asc par n j)

is-under : (par : ℕ → ℕ) (f j x : ℕ) → is_under par f j x ≡ true → Under par j x
unfolding is_under
is-under par zero j x e = rw (eqb-true x j e) top
is-under par (suc f) j x e = go (test (eqb x j)) (test (eqb (par x) 0)) (λ q. is-under par f j (par x) q)
  where
    go : Test (eqb x j) → Test (eqb (par x) 0) → (is_under par f j (par x) ≡ true → Under par j (par x)) → Under par j x
    go (passes q) r ih = rw (eqb-true x j q) top
    go (fails q) (passes r) ih = absurd (true-false (rw (q, r, is_under) at e) refl)
    go (fails q) (fails r) ih = let z : par x ≢ 0 = eqb-false (par x) 0 r in up {k = x} (omega arith) (ih (rw (q, r, is_under) at e))

module _ {par : ℕ → ℕ} {n : ℕ} (tree : Tree par n) where
  -- if j is not 0, its children are the columns that have it as parent
  pub children-of : (j x : ℕ) → 0 < j → (x ∈ children par n j) ↔ (par x ≡ j)
  children-of j x z = (
    λ m. ((children-are par n j x).0 m).2,
    λ e. (children-are par n j x).1 (positive x e, omega (arith, tree.above x (omega arith), tree.within x), e),
  )
    where
      positive : (x : ℕ) → par x ≡ j → 1 ≤ x
      positive zero e = absurd (omega (arith, tree.none))
      positive (suc x) e = omega arith

  -- climbing n - x parents is enough
  under-is : (f j x : ℕ) → n ≤ x + f → Under par j x → is_under par f j x ≡ true
  unfolding is_under
  under-is zero j x l top = eq-eqb x x refl
  under-is zero j x l (up z s) = absurd (omega (arith, tree.above x z, tree.within x))
  under-is (suc f) j x l top = rw (eq-eqb x x refl, is_under)
  under-is (suc f) j x l (up z s) = go (test (eqb x j)) (under-is f j (par x) (omega (arith, tree.above x z)) s)
    where
      go : Test (eqb x j) → is_under par f j (par x) ≡ true → is_under par (suc f) j x ≡ true
      go (passes q) ih = rw (q, is_under)
      go (fails q) ih = rw (q, ne_eqb (par x) 0 (λ e. absurd (omega arith)), is_under) ih

  -- the test of a subtree passes exactly when the column is in it
  pub under-test : (j x : ℕ) → (is_under par n j x ≡ true) ↔ Under par j x
  under-test j x = (is-under par n j x, under-is n j x (omega arith))

  pub subtree-is : (j x : ℕ) → 1 ≤ j → j ≤ n → (x ∈ subtree_of par n j) ↔ Under par j x
  unfolding subtree_of
  subtree-is j x l u = (
    λ m. (under-test j x).0 (keep-from (is_under par n j) (up_to n) m).1,
    λ s. let (a, b) = under-range tree j x l u s in keep-into (is_under par n j) (up_to n) (up_to-into n x a b) ((under-test j x).1 s),
  )

pub subtree-distinct : (par : ℕ → ℕ) (n j : ℕ) → Distinct (subtree_of par n j)
unfolding subtree_of
subtree-distinct par n j = keep-distinct (is_under par n j) (up_to n) (up_to-distinct n)
