-- Proves facts of the largest number of a list: it is in the list, and no number is larger; and sums and largest numbers of lists joined
-- or raised.
-- Assumes nothing.
use Prim.Native.Nat.{ℕ, ◌+◌, ◌*◌, ◌<◌, ◌≤◌, max}
use mathlib.Core.Path.{◌≡◌, refl}
use mathlib.Core.Logic.{◌⊎◌, inl, inr}
use mathlib.Core.List.Memᴰ
use mathlib.Core.List.{List, [], ◌∷◌, ◌++◌, map}
use native.Mathlib.Omega.{arith}
use lib.ListN.{length}
use Rattle.papers.specs.Lists.{◌∈◌, sum, largest}
use Rattle.list_laws.proofs.Tests.{below_or}

pub largest-least : (l : List ℕ) (b : ℕ) → ((r : ℕ) → r ∈ l → r ≤ b) → largest l ≤ b
unfolding largest
largest-least [] b h = omega arith
largest-least (x ∷ l) b h = omega (arith, h x (Memᴰ.head refl), largest-least l b (λ r m. h r (Memᴰ.tail m)))

pub largest-bound : (l : List ℕ) (r : ℕ) → r ∈ l → r ≤ largest l
unfolding largest
largest-bound [] r m = absurd (Memᴰ.not-nil m)
largest-bound (x ∷ l) r m = go (Memᴰ.cases_cons m) (λ k. largest-bound l r k)
  where
    go : (r ≡ x) ⊎ (r ∈ l) → (r ∈ l → r ≤ largest l) → r ≤ max x (largest l)
    go (inl e) ih = omega arith
    go (inr k) ih = omega (arith, ih k)

pub largest-in : (l : List ℕ) → 0 < length l → largest l ∈ l
unfolding largest
largest-in [] h = absurd (omega arith)
largest-in (x ∷ []) h = Memᴰ.head {x = x} (omega arith)
largest-in (x ∷ y ∷ l) h = go (below_or x (largest (y ∷ l))) (largest-in (y ∷ l) (omega arith))
  where
    go : (x < largest (y ∷ l)) ⊎ (largest (y ∷ l) ≤ x) → largest (y ∷ l) ∈ (y ∷ l) → max x (largest (y ∷ l)) ∈ (x ∷ y ∷ l)
    go (inl b) ih = Memᴰ.tail (Memᴰ.cast (omega arith) ih)
    go (inr b) ih = Memᴰ.head {x = x} (omega arith)

pub largest-append : (a b : List ℕ) → largest (a ++ b) ≡ max (largest a) (largest b)
unfolding largest
largest-append [] b = omega arith
largest-append (x ∷ a) b = omega (arith, largest-append a b)

-- raising every number by h raises the largest by h
pub largest-raised : (h : ℕ) (l : List ℕ) → 0 < length l → largest (map (λ r. h + r) l) ≡ h + largest l
unfolding largest
largest-raised h [] z = absurd (omega arith)
largest-raised h (x ∷ []) z = omega arith
largest-raised h (x ∷ y ∷ l) z = omega (arith, largest-raised h (y ∷ l) (omega arith))

pub sum-append : (a b : List ℕ) → sum (a ++ b) ≡ sum a + sum b
unfolding sum
sum-append [] b = omega arith
sum-append (x ∷ a) b = omega (arith, sum-append a b)

-- numbers that are each at most b add up to at most b times their count
pub sum_bound : (l : List ℕ) (b : ℕ) → ((x : ℕ) → x ∈ l → x ≤ b) → sum l ≤ length l * b
unfolding sum
sum_bound [] b h = omega arith
sum_bound (x ∷ l) b h = omega (arith, h x (Memᴰ.head refl), sum_bound l b (λ y m. h y (Memᴰ.tail m)))
