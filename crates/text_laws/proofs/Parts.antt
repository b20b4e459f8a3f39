-- Proves that a text determines its longest first part whose bytes all have a property.
-- Assumes nothing.
use Prim.Native.Nat.{ℕ}
use mathlib.Core.Path.{◌≡◌, refl}
use mathlib.Core.Logic.{◌↔◌}
use mathlib.Core.Bool.{Bool, true}
use mathlib.Core.List.{List, [], ◌∷◌, ◌++◌}
use Rattle.papers.specs.Lists.{every}
use Rattle.text_laws.specs.Grammar.{All}
use Rattle.list_laws.proofs.Tests.{Test, passes, fails, test, true-false}

pub all_append : {A : Type 0} (P : A → Type 0) (xs ys : List A) → All P xs → All P ys → All P (xs ++ ys)
all_append P [] ys p q = q
all_append P (x ∷ xs) ys p q = (p.0, all_append P xs ys p.1 q)

pub all_back : {A : Type 0} (P : A → Type 0) (xs ys : List A) → All P (xs ++ ys) → All P ys
all_back P [] ys p = p
all_back P (x ∷ xs) ys p = all_back P xs ys p.1

pub all_map : {A : Type 0} {P Q : A → Type 0} → ((x : A) → P x → Q x) → (xs : List A) → All P xs → All Q xs
all_map f [] p = tt
all_map f (x ∷ xs) p = (f x p.0, all_map f xs p.1)

pub every-iff : (f : ℕ → Bool) (l : List ℕ) → (every f l ≡ true) ↔ All (λ x. f x ≡ true) l
unfolding every
every-iff f [] = (λ e. tt, λ p. refl)
every-iff f (x ∷ xs) = go (test (f x)) (every-iff f xs)
  where
    go : Test (f x) → ((every f xs ≡ true) ↔ All (λ x. f x ≡ true) xs) → (every f (x ∷ xs) ≡ true) ↔ All (λ x. f x ≡ true) (x ∷ xs)
    go (passes q) ih = (λ e. (q, ih.0 (rw (q, every) at e)), λ p. rw (q, every) (ih.1 p.1))
    go (fails q) ih = (λ e. absurd (true-false (rw (q, every) at e) refl), λ p. absurd (true-false p.0 q))

module _ (P : ℕ → Type 0) where
  -- a run of bytes with the property does not go beyond a byte without it
  pub within : (v w : List ℕ) (t : ℕ) (x y : List ℕ) → All P v → ¬ P t → v ++ x ≡ w ++ (t ∷ y) → (u : List ℕ) × (w ≡ v ++ u) × (x ≡ u ++ (t ∷ y))
  within [] w t x y p n e = (w, refl, e)
  within (b ∷ v) [] t x y p n e = let z : b ≡ t = cc in absurd (n (rw z at p.0))
  within (b ∷ v) (c ∷ w) t x y p n e =
      let z : b ≡ c = cc in
      let (u, f, g) = within v w t x y p.1 n cc in
      (u, cc, g)

  -- two such runs, each followed by a byte without the property, are the same
  pub split : (v w : List ℕ) (s t : ℕ) (x y : List ℕ) → All P v → All P w → ¬ P s → ¬ P t → v ++ (s ∷ x) ≡ w ++ (t ∷ y) → (v ≡ w) × (s ≡ t) × (x ≡ y)
  split [] [] s t x y p q m n e = (refl, cc, cc)
  split [] (c ∷ w) s t x y p q m n e = let z : c ≡ s = cc in absurd (m (rw z at q.0))
  split (b ∷ v) [] s t x y p q m n e = let z : b ≡ t = cc in absurd (n (rw z at p.0))
  split (b ∷ v) (c ∷ w) s t x y p q m n e =
      let z : b ≡ c = cc in
      let (f, g, k) = split v w s t x y p.1 q.1 m n cc in
      (cc, g, k)
