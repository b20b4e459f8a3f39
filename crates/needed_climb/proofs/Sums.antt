-- Proves facts of sums over the columns, and of how many rows of a list are below i.
-- Assumes nothing.
use Prim.Native.Nat.{ℕ, zero, suc, ◌+◌, ◌*◌, ◌<◌, ◌≤◌}
use mathlib.Core.Path.{◌≡◌, refl}
use mathlib.Core.Logic.{⊎_elim, ◌≢◌}
use mathlib.Core.List.{List, [], ◌∷◌}
use native.Mathlib.Omega.{arith}
use native.Mathlib.Nat.{le-suc_iff}
use lib.ListN.{length}
use borrow.Author.Tests.{lt-ltb, le-ltb, eq-eqb, ne_eqb}
use Rattle.papers.specs.Bounds.{max_columns}
use Rattle.list_laws.proofs.Tests.{below_or}
use Rattle.needed_climb.specs.Sums.{sum_to, count_below, hit}

pub hit-yes : (a b : ℕ) → a ≡ b → hit a b ≡ 1
unfolding hit
hit-yes a b e = rw (eq-eqb a b e, hit)

pub hit-no : (a b : ℕ) → a ≢ b → hit a b ≡ 0
unfolding hit
hit-no a b e = rw (ne_eqb a b e, hit)

-- ---- sums

pub sum_same : (n : ℕ) (g h : ℕ → ℕ) → ((c : ℕ) → 1 ≤ c → c ≤ n → h c ≡ g c) → sum_to n h ≡ sum_to n g
unfolding sum_to
sum_same zero g h f = refl
sum_same (suc n) g h f = omega (arith, sum_same n g h (λ c a b. f c a (omega arith)), f (suc n) (omega arith) (omega arith))

-- raises the number at d by one
pub sum_bump : (n d : ℕ) (g h : ℕ → ℕ) → 1 ≤ d → d ≤ n → h d ≡ g d + 1 → ((c : ℕ) → 1 ≤ c → c ≤ n → c ≢ d → h c ≡ g c) → sum_to n h ≡ sum_to n g + 1
unfolding sum_to
sum_bump zero d g h a b e f = absurd (omega arith)
sum_bump (suc n) d g h a b e f =
    ⊎_elim
    (λ (l : d ≤ n). omega (
      arith,
      sum_bump n d g h a l e (λ c u v z. f c u (omega arith) z),
      f (suc n) (omega arith) (omega arith) (λ z. omega arith),
    ))
    (λ (l : d ≡ suc n). omega (arith, sum_same n g h (λ c u v. f c u (omega arith) (λ z. omega arith)), rw l at e))
    (le-suc_iff.0 b)

-- bounds a sum of numbers of at most max_columns + 1
pub sum-few : (n : ℕ) (g : ℕ → ℕ) → ((c : ℕ) → 1 ≤ c → c ≤ n → g c ≤ max_columns + 1) → sum_to n g ≤ n * (max_columns + 1)
unfolding sum_to
sum-few zero g f = omega arith
sum-few (suc n) g f = omega (arith, sum-few n g (λ c u v. f c u (omega arith)), f (suc n) (omega arith) (omega arith))

-- ---- rows below i

pub below-lt : (i x : ℕ) (xs : List ℕ) → x < i → count_below i (x ∷ xs) ≡ suc (count_below i xs)
unfolding count_below
below-lt i x xs h = rw (lt-ltb x i h, count_below)

pub below-ge : (i x : ℕ) (xs : List ℕ) → i ≤ x → count_below i (x ∷ xs) ≡ count_below i xs
unfolding count_below
below-ge i x xs h = rw (le-ltb x i h, count_below)

pub below-few : (i : ℕ) (l : List ℕ) → count_below i l ≤ length l
unfolding count_below
below-few i [] = omega arith
below-few i (x ∷ xs) =
    ⊎_elim
    (λ (h : x < i). rw (below-lt i x xs h) (omega (arith, below-few i xs)))
    (λ (h : i ≤ x). rw (below-ge i x xs h) (omega (arith, below-few i xs)))
    (below_or x i)
