-- Proves that `keep` keeps exactly the numbers that pass the test, in their order.
-- Assumes nothing.
use Prim.Native.Nat.{ℕ}
use mathlib.Core.Path.{◌≡◌, refl, ap, ◌∙◌}
use mathlib.Core.Logic.{◌⊎◌, inl, inr}
use mathlib.Core.Bool.{Bool, true, false}
use mathlib.Core.List.Memᴰ
use mathlib.Core.List.{List, [], ◌∷◌, ◌++◌}
use Rattle.papers.specs.Lists.{◌∈◌, Asc, Distinct, keep}
use Rattle.list_laws.proofs.Tests.{Test, passes, fails, test, true-false}
use Rattle.list_laws.proofs.Ascending.{asc-above, asc-bound}

module _ (f : ℕ → Bool) where
  pub keep-nil : keep f [] ≡ []
  unfolding keep
  keep-nil = refl

  pub keep-yes : (x : ℕ) (xs : List ℕ) → f x ≡ true → keep f (x ∷ xs) ≡ x ∷ keep f xs
  unfolding keep
  keep-yes x xs e = rw (e, keep)

  pub keep-no : (x : ℕ) (xs : List ℕ) → f x ≡ false → keep f (x ∷ xs) ≡ keep f xs
  unfolding keep
  keep-no x xs e = rw (e, keep)

  pub keep_append : (xs ys : List ℕ) → keep f (xs ++ ys) ≡ keep f xs ++ keep f ys
  unfolding keep
  keep_append [] ys = refl
  keep_append (x ∷ xs) ys = go (test (f x)) (keep_append xs ys)
    where
      go : Test (f x) → keep f (xs ++ ys) ≡ keep f xs ++ keep f ys → keep f (x ∷ (xs ++ ys)) ≡ keep f (x ∷ xs) ++ keep f ys
      go (passes e) ih = rw (keep-yes x (xs ++ ys) e, keep-yes x xs e) (ap (λ l. x ∷ l) ih)
      go (fails e) ih = rw (keep-no x (xs ++ ys) e, keep-no x xs e) ih

  pub keep-none : (xs : List ℕ) → ((x : ℕ) → x ∈ xs → f x ≡ false) → keep f xs ≡ []
  unfolding keep
  keep-none [] h = refl
  keep-none (x ∷ xs) h = rw (keep-no x xs (h x (Memᴰ.head refl))) (keep-none xs (λ y m. h y (Memᴰ.tail m)))

  pub keep-from : (xs : List ℕ) {i : ℕ} → i ∈ keep f xs → (i ∈ xs) × (f i ≡ true)
  unfolding keep
  keep-from [] m = absurd (Memᴰ.not-nil m)
  keep-from (x ∷ xs) {i} m = go (test (f x)) (λ t. keep-from xs t)
    where
      first : (i ≡ x) ⊎ (i ∈ keep f xs) → f x ≡ true → (i ∈ keep f xs → (i ∈ xs) × (f i ≡ true)) → (i ∈ (x ∷ xs)) × (f i ≡ true)
      first (inl q) e ih = (Memᴰ.head q, rw q e)
      first (inr t) e ih = let (a, b) = ih t in (Memᴰ.tail a, b)

      go : Test (f x) → (i ∈ keep f xs → (i ∈ xs) × (f i ≡ true)) → (i ∈ (x ∷ xs)) × (f i ≡ true)
      go (passes e) ih = first (Memᴰ.cases_cons (rw (keep-yes x xs e) at m)) e ih
      go (fails e) ih = let (a, b) = ih (rw (keep-no x xs e) at m) in (Memᴰ.tail a, b)

  pub keep-into : (xs : List ℕ) {i : ℕ} → i ∈ xs → f i ≡ true → i ∈ keep f xs
  keep-into [] m e = absurd (Memᴰ.not-nil m)
  keep-into (x ∷ xs) {i} m e = go (test (f x)) (Memᴰ.cases_cons m) (λ t. keep-into xs t e)
    where
      go : Test (f x) → (i ≡ x) ⊎ (i ∈ xs) → (i ∈ xs → i ∈ keep f xs) → i ∈ keep f (x ∷ xs)
      go (passes p) (inl q) ih = rw (keep-yes x xs p) (Memᴰ.head q)
      go (passes p) (inr t) ih = rw (keep-yes x xs p) (Memᴰ.tail (ih t))
      go (fails p) (inl q) ih = absurd (true-false e (rw q p))
      go (fails p) (inr t) ih = rw (keep-no x xs p) (ih t)

  pub keep-asc : (b : ℕ) (xs : List ℕ) → Asc b xs → Asc b (keep f xs)
  unfolding keep
  keep-asc b [] s = tt
  keep-asc b (x ∷ xs) s = go (test (f x)) (keep-asc x xs s.1)
    where
      go : Test (f x) → Asc x (keep f xs) → Asc b (keep f (x ∷ xs))
      go (passes e) ih = rw (keep-yes x xs e) (s.0, ih)
      go (fails e) ih = rw (keep-no x xs e) (asc-bound b x (keep f xs) ih (λ i m. asc-above b (x ∷ xs) s (Memᴰ.tail (keep-from xs m).0)))

  pub keep-distinct : (xs : List ℕ) → Distinct xs → Distinct (keep f xs)
  unfolding keep
  keep-distinct [] d = tt
  keep-distinct (x ∷ xs) d = go (test (f x)) (keep-distinct xs d.1)
    where
      go : Test (f x) → Distinct (keep f xs) → Distinct (keep f (x ∷ xs))
      go (passes e) ih = rw (keep-yes x xs e) (λ m. d.0 (keep-from xs m).0, ih)
      go (fails e) ih = rw (keep-no x xs e) ih

pub keep_same : (f g : ℕ → Bool) (xs : List ℕ) → ((x : ℕ) → x ∈ xs → f x ≡ g x) → keep f xs ≡ keep g xs
unfolding keep
keep_same f g [] h = refl
keep_same f g (x ∷ xs) h = go (test (g x)) (h x (Memᴰ.head refl)) (keep_same f g xs (λ y m. h y (Memᴰ.tail m)))
  where
    go : Test (g x) → f x ≡ g x → keep f xs ≡ keep g xs → keep f (x ∷ xs) ≡ keep g (x ∷ xs)
    go (passes e) q ih = rw (keep-yes f x xs (q ∙ e), keep-yes g x xs e) (ap (λ l. x ∷ l) ih)
    go (fails e) q ih = rw (keep-no f x xs (q ∙ e), keep-no g x xs e) ih
