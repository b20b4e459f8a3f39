-- Proves how many rows of a list are below i: one more is below i + 1 exactly if the list has row i. And it counts all rows of all lists by a sum
-- over the columns.
-- Assumes nothing.
use Prim.Native.Nat.{ℕ, zero, suc, ◌+◌, ◌<◌, ◌≤◌}
use mathlib.Core.Path.{◌≡◌, refl, sym, ap, ◌∙◌}
use mathlib.Core.Logic.{◌⊎◌, inl, inr}
use mathlib.Core.List.Memᴰ
use mathlib.Core.List.{List, [], ◌∷◌}
use native.Mathlib.Omega.{arith}
use lib.ListN.{length}
use Rattle.papers.specs.Lists.{◌∈◌, Asc, up_to, flat}
use Rattle.papers.specs.Key.{lists_of}
use Rattle.list_laws.proofs.Tests.{Compare, below, level, above, compare}
use Rattle.list_laws.proofs.Ascending.{asc-above}
use Rattle.column_laws.proofs.Families.{length_more}
use Rattle.needed_climb.specs.Sums.{sum_to, count_below}
use Rattle.needed_climb.proofs.Sums.{below-lt, below-ge}

pub sum-none : (n : ℕ) → sum_to n (λ c. 0) ≡ 0
unfolding sum_to
sum-none zero = refl
sum-none (suc n) = omega (arith, sum-none n)

-- the rows of the lists of n columns
pub sum-lengths : (B : ℕ → List ℕ) (n : ℕ) → sum_to n (λ c. length (B c)) ≡ length (flat (lists_of n B))
unfolding sum_to flat lists_of up_to
sum-lengths B zero = refl
sum-lengths B (suc n) = omega (arith, sum-lengths B n, length_more B n)

-- ---- rows below i

-- all rows are above b
pub below_none : (i b : ℕ) (l : List ℕ) → Asc b l → i ≤ b + 1 → count_below i l ≡ 0
unfolding count_below
below_none i b [] s h = refl
below_none i b (x ∷ xs) s h = below-ge i x xs (omega (arith, s.0)) ∙ below_none i x xs s.1 (omega (arith, s.0))

pub below_all : (i : ℕ) (l : List ℕ) → ((x : ℕ) → x ∈ l → x < i) → count_below i l ≡ length l
unfolding count_below
below_all i [] f = refl
below_all i (x ∷ xs) f = below-lt i x xs (f x (Memᴰ.head refl)) ∙ ap suc (below_all i xs (λ y m. f y (Memᴰ.tail m)))

-- i is no row
pub below-miss : (i : ℕ) (l : List ℕ) → (i ∈ l → ⊥) → count_below (suc i) l ≡ count_below i l
unfolding count_below
below-miss i [] f = refl
below-miss i (x ∷ xs) f = go (compare x i) (below-miss i xs (λ m. f (Memᴰ.tail m)))
  where
    go : Compare x i → count_below (suc i) xs ≡ count_below i xs → count_below (suc i) (x ∷ xs) ≡ count_below i (x ∷ xs)
    go (below l) ih = rw (below-lt (suc i) x xs (omega arith), below-lt i x xs l) (ap suc ih)
    go (level e) ih = absurd (f (Memᴰ.head (sym e)))
    go (above l) ih = rw (below-ge (suc i) x xs (omega arith), below-ge i x xs (omega arith)) ih

-- i is a row
pub below-hit : (i b : ℕ) (l : List ℕ) → Asc b l → i ∈ l → count_below (suc i) l ≡ count_below i l + 1
unfolding count_below
below-hit i b [] s m = absurd (Memᴰ.not-nil m)
below-hit i b (x ∷ xs) s m = go (Memᴰ.cases_cons m) (λ t. below-hit i x xs s.1 t)
  where
    go : (i ≡ x) ⊎ (i ∈ xs) → (i ∈ xs → count_below (suc i) xs ≡ count_below i xs + 1) → count_below (suc i) (x ∷ xs) ≡ count_below i (x ∷ xs) + 1
    go (inl e) ih =
        rw (below-lt (suc i) x xs (omega arith), below-ge i x xs (omega arith))
        (omega (arith, below_none (suc i) x xs s.1 (omega arith), below_none i x xs s.1 (omega arith)))
    go (inr t) ih =
        let q = asc-above x xs s.1 t in
        rw (below-lt (suc i) x xs (omega arith), below-lt i x xs q) (omega (arith, ih t))
