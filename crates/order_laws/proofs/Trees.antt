-- Proves facts of subtrees: parents lead from a column to every column above it, so two ways up from one column join, and the subtrees of
-- two children of one column share nothing.
-- Assumes nothing.
use Prim.Native.Nat.{ℕ, zero, suc, ◌+◌, ◌<◌, ◌≤◌}
use mathlib.Core.Path.{◌≡◌, refl, sym}
use mathlib.Core.Logic.{◌⊎◌, inl, inr, ◌≢◌}
use native.Mathlib.Omega.{arith}
use lib.Dec.{eqb}
use borrow.Author.Tests.{eqb-true, eqb-false}
use Rattle.papers.specs.Tree.{Under, top, up}
use Rattle.fill_laws.proofs.Subtrees.{under-le}
use Rattle.list_laws.proofs.Tests.{Test, passes, fails, test}
use Rattle.order_laws.specs.Parents.{Tree}

module _ (par : ℕ → ℕ) where
  -- a column of a subtree is the top, or its parent is in the subtree
  pub under-cases : (j x : ℕ) → Under par j x → (x ≡ j) ⊎ ((0 < par x) × Under par j (par x))
  under-cases j x top = inl refl
  under-cases j x (up z s) = inr (z, s)

  pub under-child : (j c : ℕ) → 0 < j → par c ≡ j → Under par j c
  under-child j c z e = up {k = c} (omega arith) (rw e top)

  -- the child of j whose subtree contains x
  pub record Through (j x : ℕ) : Type 0 where
    pub child : ℕ
    pub parent : par child ≡ j
    pub under : Under par child x

  pub through : (j x : ℕ) → Under par j x → x ≢ j → Through j x
  through j x top h = absurd (h refl)
  through j x (up z s) h = go (test (eqb (par x) j)) (λ q. through j (par x) s q)
    where
      more : Through j (par x) → Through j x
      more w = record { child = w.child; parent = w.parent; under = up z w.under }

      go : Test (eqb (par x) j) → (par x ≢ j → Through j (par x)) → Through j x
      go (passes e) ih = record { child = x; parent = eqb-true (par x) j e; under = top }
      go (fails e) ih = more (ih (eqb-false (par x) j e))

  chain : (c d x : ℕ) → Under par c x → Under par d x → Under par c d ⊎ Under par d c
  chain c d x top u = inr u
  chain c d x (up z s) u = go (under-cases d x u) (λ v. chain c d (par x) s v)
    where
      go : (x ≡ d) ⊎ ((0 < par x) × Under par d (par x)) → (Under par d (par x) → Under par c d ⊎ Under par d c) → Under par c d ⊎ Under par d c
      go (inl e) ih = inl (rw e at (up z s))
      go (inr v) ih = ih v.1

module _ {par : ℕ → ℕ} {n : ℕ} (tree : Tree par n) where
  -- the subtrees of two children of one column share nothing
  pub apart : (j c d x : ℕ) → par c ≡ j → par d ≡ j → c ≢ d → Under par c x → Under par d x → ⊥
  apart j c d x p q h s u = go (chain par c d x s u)
    where
      over : (c d : ℕ) → par c ≡ j → par d ≡ j → c ≢ d → Under par c d → ⊥
      over c d p q h s = next (under-cases par c d s)
        where
          next : (d ≡ c) ⊎ ((0 < par d) × Under par c (par d)) → ⊥
          next (inl e) = h (sym e)
          next (inr v) = omega (arith, under-le par tree.above c (par d) v.1, tree.above c (omega arith))

      go : Under par c d ⊎ Under par d c → ⊥
      go (inl s) = over c d p q h s
      go (inr s) = over d c q p (λ e. h (sym e)) s

  -- a subtree of a column contains columns of 1 to n only
  pub under-range : (j x : ℕ) → 1 ≤ j → j ≤ n → Under par j x → (1 ≤ x) × (x ≤ n)
  under-range j x l u s = (positive x s, omega (arith, under-le par tree.above j x s))
    where
      positive : (x : ℕ) → Under par j x → 1 ≤ x
      positive x top = l
      positive zero (up z s) = absurd (omega (arith, tree.none))
      positive (suc x) (up z s) = omega arith

  pub top_within : (j x : ℕ) → x ≤ n → Under par j x → j ≤ n
  top_within j x l top = l
  top_within j x l (up z s) = top_within j (par x) (tree.within x) s

  -- every column has a root above it
  pub record Rooted (x : ℕ) : Type 0 where
    pub root : ℕ
    pub free : par root ≡ 0
    pub under : Under par root x

  climb-step : (x : ℕ) → (0 < par x → Rooted (par x)) → Rooted x
  climb-step x ih = go (test (eqb (par x) 0))
    where
      go : Test (eqb (par x) 0) → Rooted x
      go (passes e) = record { root = x; free = eqb-true (par x) 0 e; under = top }
      go (fails e) =
          let z : par x ≢ 0 = eqb-false (par x) 0 e in
          let h : 0 < par x = omega arith in
          record { root = (ih h).root; free = (ih h).free; under = up h (ih h).under }

  climb : (d x : ℕ) → n ≤ x + d → Rooted x
  climb zero x b = climb-step x (λ z. absurd (omega (arith, tree.above x z, tree.within x)))
  climb (suc d) x b = climb-step x (λ z. climb d (par x) (omega (arith, tree.above x z)))

  pub rooted : (x : ℕ) → Rooted x
  rooted x = climb n x (omega arith)
