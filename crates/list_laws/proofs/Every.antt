-- `every` passes over the numbers of which a test holds, and ends at the first of which it does not; so where it passes, the test holds of each.
-- Assumes nothing.
use Prim.Native.Nat.{ℕ}
use mathlib.Core.Path.{◌≡◌, refl, sym, ◌∙◌}
use mathlib.Core.Logic.{◌⊎◌, inl, inr, ◌↔◌}
use mathlib.Core.Bool.{Bool, true, false}
use mathlib.Core.List.Memᴰ
use mathlib.Core.List.{List, [], ◌∷◌}
use Rattle.papers.specs.Lists.{◌∈◌, every}
use Rattle.list_laws.proofs.Tests.{Test, passes, fails, test, true-false}

module _ (f : ℕ → Bool) where
  pub every-nil : every f [] ≡ true
  unfolding every
  every-nil = refl

  pub every-yes : (x : ℕ) (xs : List ℕ) → f x ≡ true → every f (x ∷ xs) ≡ every f xs
  unfolding every
  every-yes x xs e = rw (e, every)

  pub every-no : (x : ℕ) (xs : List ℕ) → f x ≡ false → every f (x ∷ xs) ≡ false
  unfolding every
  every-no x xs e = rw (e, every)

  -- of each, where it passes of all
  pub every-all : (l : List ℕ) → (every f l ≡ true) ↔ ((x : ℕ) → x ∈ l → f x ≡ true)
  every-all [] = (λ e x m. absurd (Memᴰ.not-nil m), λ h. every-nil)
  every-all (y ∷ l) = go (test (f y)) (every-all l)
    where
      go : Test (f y) → (every f l ≡ true) ↔ ((x : ℕ) → x ∈ l → f x ≡ true) → (every f (y ∷ l) ≡ true) ↔ ((x : ℕ) → x ∈ (y ∷ l) → f x ≡ true)
      go (passes e) ih = (λ q x m. at q x (Memᴰ.cases_cons m), λ h. every-yes y l e ∙ ih.1 (λ x m. h x (Memᴰ.tail m)))
        where
          at : every f (y ∷ l) ≡ true → (x : ℕ) → (x ≡ y) ⊎ (x ∈ l) → f x ≡ true
          at q x (inl p) = rw p e
          at q x (inr m) = ih.0 (sym (every-yes y l e) ∙ q) x m
      go (fails e) ih = (λ q. absurd (true-false q (every-no y l e)), λ h. absurd (true-false (h y (Memᴰ.head refl)) e))
