-- Proves that a parent is above its column, since it is the least row, and that all other rows of the column are rows of the parent too.
-- Assumes nothing.
use Prim.Native.Nat.{ℕ, zero, suc, ◌<◌, ◌≤◌}
use mathlib.Core.Path.{◌≡◌, refl}
use mathlib.Core.Logic.{◌⊎◌, inl, inr}
use mathlib.Core.List.Memᴰ
use mathlib.Core.List.{List, [], ◌∷◌}
use native.Mathlib.Omega.{arith}
use lib.ListN.{drop}
use Rattle.papers.specs.Lists.{◌∈◌, Asc, head0}
use Rattle.papers.specs.Job.{Pattern, Below}
use Rattle.papers.specs.Fill.{R}
use Rattle.papers.specs.Tree.{parent}
use Rattle.list_laws.proofs.Ascending.{asc-above}
use Rattle.fill_laws.proofs.Fill.{R-asc, R-range, R-step}

head0-cons : (l : List ℕ) (j : ℕ) → 0 < j → head0 l ≡ j → l ≡ j ∷ drop 1 l
unfolding head0
head0-cons [] j h e = absurd (omega arith)
head0-cons (x ∷ xs) j h e = cc

-- the list of a child of j begins with j
pub child-cons : (A : Pattern) (j c : ℕ) → 0 < j → parent A c ≡ j → R A c ≡ j ∷ drop 1 (R A c)
unfolding parent
child-cons A j c h e = head0-cons (R A c) j h e

pub parent-mem : (A : Pattern) (k : ℕ) → 0 < parent A k → parent A k ∈ R A k
parent-mem A k h = rw (child-cons A (parent A k) k h refl) (Memᴰ.head refl)

module _ {n : ℕ} {A : Pattern} (good : Below n A) where
  pub parent_above : (k : ℕ) → 0 < parent A k → k < parent A k
  parent_above k h = (R-range good k (parent A k) (parent-mem A k h)).0

  pub parent-within : (k : ℕ) → parent A k ≤ n
  parent-within k = go (parent A k) refl
    where
      go : (p : ℕ) → parent A k ≡ p → p ≤ n
      go zero e = omega arith
      go (suc p) e = rw (← e) (R-range good k (parent A k) (parent-mem A k (omega arith))).1

  -- a row of R(k) is the parent, or above it
  pub parent-least : (k i : ℕ) → i ∈ R A k → (0 < parent A k) × (parent A k ≤ i)
  unfolding parent head0
  parent-least k i m = go (R A k) (R-asc good k) m
    where
      go : (l : List ℕ) → Asc k l → i ∈ l → (0 < head0 l) × (head0 l ≤ i)
      go [] s m = absurd (Memᴰ.not-nil m)
      go (x ∷ xs) s m = (omega arith, least (Memᴰ.cases_cons m))
        where
          least : (i ≡ x) ⊎ (i ∈ xs) → x ≤ i
          least (inl e) = omega arith
          least (inr t) = omega (arith, asc-above x xs s.1 t)

  -- every row of a column except its parent is a row of its parent
  pub hands_on : (k i : ℕ) → 0 < parent A k → i ∈ R A k → parent A k < i → i ∈ R A (parent A k)
  hands_on k i h m l = R-step A k (parent A k) i (parent_above k h) (parent-mem A k h) m l
