-- Proves the two sides of a test, the three ways in which two numbers compare, and induction on all smaller numbers.
-- Assumes nothing.
use Prim.Native.Nat.{ℕ, zero, suc, ◌<◌, ◌≤◌}
use mathlib.Core.Path.{◌≡◌, refl}
use mathlib.Core.Logic.{◌⊎◌, inl, inr, ◌↔◌, ◌≢◌}
use mathlib.Core.Bool.{Bool, true, false, ◌&&◌}
use native.Mathlib.Omega.{arith}
use lib.Dec.{ltb, eqb}
use borrow.Author.Tests.{ltb-true, ltb-false, eqb-true, eqb-false}

-- a test with its outcome, so that a clause on the outcome keeps the equation
pub data Test (b : Bool) : Type 0 where
  passes : b ≡ true → Test b
  fails : b ≡ false → Test b

pub test : (b : Bool) → Test b
test true = passes refl
test false = fails refl

pub data Compare (x y : ℕ) : Type 0 where
  below : x < y → Compare x y
  level : x ≡ y → Compare x y
  above : y < x → Compare x y

pub compare : (x y : ℕ) → Compare x y
compare x y = go (ltb x y) (ltb y x) refl refl
  where
    go : (p q : Bool) → ltb x y ≡ p → ltb y x ≡ q → Compare x y
    go true q e f = below (ltb-true x y e)
    go false true e f = above (ltb-true y x f)
    go false false e f = level (omega (arith, ltb-false x y e, ltb-false y x f))

pub below_or : (x y : ℕ) → (x < y) ⊎ (y ≤ x)
below_or x y = go (ltb x y) refl
  where
    go : (p : Bool) → ltb x y ≡ p → (x < y) ⊎ (y ≤ x)
    go true e = inl (ltb-true x y e)
    go false e = inr (ltb-false x y e)

-- two numbers are the same, or not
pub same_or : (x y : ℕ) → (x ≡ y) ⊎ (x ≢ y)
same_or x y = go (test (eqb x y))
  where
    go : Test (eqb x y) → (x ≡ y) ⊎ (x ≢ y)
    go (passes e) = inl (eqb-true x y e)
    go (fails e) = inr (eqb-false x y e)

pub true-false : {b : Bool} → b ≡ true → b ≡ false → ⊥
true-false p q = let z : ◌≡◌ {A = ℕ} 0 1 = cc in omega arith

-- both tests pass
pub and-iff : (a b : Bool) → ((a && b) ≡ true) ↔ ((a ≡ true) × (b ≡ true))
and-iff true b = (λ e. (refl, e), λ h. h.1)
and-iff false b = (λ e. absurd (true-false e refl), λ h. absurd (true-false h.0 refl))

-- if a statement holds of n whenever it holds of every smaller number, it holds of all numbers
pub strong {ℓ} : (P : ℕ → Type ℓ) → ((n : ℕ) → ((m : ℕ) → m < n → P m) → P n) → (n : ℕ) → P n
strong P step n = step n (below-it n)
  where
    below-it : (b m : ℕ) → m < b → P m
    below-it zero m l = absurd (omega arith)
    below-it (suc b) m l = step m (λ k q. below-it b k (omega arith))
