-- The numbers of a slice by their places in the list, and what a store leaves of a slice. A slice that is not empty is its first number and the
-- slice from the next place on.
-- Assumes nothing.
use Prim.Native.Nat.{ℕ, zero, suc, ◌+◌, ◌-◌, ◌<◌, ◌≤◌}
use mathlib.Core.Path.{◌≡◌, refl, sym, ap, ◌∙◌}
use mathlib.Core.Logic.{◌⊎◌, inl, inr, ⊎_elim, ◌≢◌}
use mathlib.Core.List.Memᴰ
use mathlib.Core.List.{List, [], ◌∷◌}
use native.Mathlib.Omega.{arith}
use native.Mathlib.Numerals.{add-one}
use lib.ListN.{length, get_or, set, take, drop, length-set, length-take, drop_of_length-le}
use lib.Seq.{slice, slice-cons, take-set-le, take-set-lt, drop-set-lt, get_or-set_same}
use Rattle.papers.specs.Lists.{◌∈◌, Asc}
use Rattle.list_laws.proofs.Tests.{below_or, same_or}
use Rattle.list_laws.proofs.Ascending.{asc-above}

pub slice-none : (i e : ℕ) (l : List ℕ) → e ≤ i → slice i e l ≡ []
slice-none i e l h = let d : length (take e l) ≤ i = rw length-take (omega arith) in drop_of_length-le (take e l) d

-- ---- its numbers

into : (k a e i : ℕ) (l : List ℕ) → e ≤ length l → i ≡ a + k → i < e → get_or l i 0 ∈ slice a e l
into zero a e i l h q b = let w : i ≡ a = omega arith in rw (w, slice-cons a e l 0 (omega arith) h) (Memᴰ.head refl)
into (suc k) a e i l h q b = rw (slice-cons a e l 0 (omega arith) h) (Memᴰ.tail (into k (suc a) e i l h (omega arith) b))

-- what stands at a place from a on and before e stands in the slice
pub slice-into : (a e i : ℕ) (l : List ℕ) → e ≤ length l → a ≤ i → i < e → get_or l i 0 ∈ slice a e l
slice-into a e i l h lo hi = into (i - a) a e i l h (omega arith) hi

-- i stands at a place from a on, before b
pub record At (i a b : ℕ) (l : List ℕ) : Type 0 where
  pub place : ℕ
  pub low : a ≤ place
  pub high : place < b
  pub is : get_or l place 0 ≡ i

module _ (l : List ℕ) (b : ℕ) (fits : b ≤ length l) where
  -- what is true of the empty slice, and of a slice once of the one from the next place on, is true of all
  slice-ind : (P : ℕ → List ℕ → Type 0) → ((a : ℕ) → b ≤ a → P a []) → ((a : ℕ) → a < b → P (suc a) (slice (suc a) b l)
      → P a (get_or l a 0 ∷ slice (suc a) b l)) → (a : ℕ) → P a (slice a b l)
  slice-ind P none some a = go b a (omega arith)
    where
      go : (k a : ℕ) → b ≤ a + k → P a (slice a b l)
      go zero a h = rw (slice-none a b l (omega arith)) (none a (omega arith))
      go (suc k) a h =
          ⊎_elim
          (λ (s : a < b). rw (slice-cons a b l 0 s fits) (some a s (go k (suc a) (omega arith))))
          (λ (s : b ≤ a). rw (slice-none a b l s) (none a s))
          (below_or a b)

  pub in-slice : (a i : ℕ) → i ∈ slice a b l → At i a b l
  in-slice a i = slice-ind (λ a s. i ∈ s → At i a b l) (λ a h m. absurd (Memᴰ.not-nil m)) (λ a h ih m. go a h ih (Memᴰ.cases_cons m)) a
    where
      go : (a : ℕ) → a < b → (i ∈ slice (suc a) b l → At i (suc a) b l) → (i ≡ get_or l a 0) ⊎ (i ∈ slice (suc a) b l) → At i a b l
      go a h ih (inl e) = record { place = a; low = omega arith; high = h; is = sym e }
      go a h ih (inr t) = let r = ih t in record { place = r.place; low = omega (arith, r.low); high = r.high; is = r.is }

  -- an ascending slice rises from place to place
  pub slice-rises : (a x p q : ℕ) → Asc x (slice a b l) → a ≤ p → p < q → q < b → get_or l p 0 < get_or l q 0
  slice-rises a x p q =
      slice-ind (λ a s. (x : ℕ) → Asc x s → a ≤ p → p < q → q < b → get_or l p 0 < get_or l q 0) (λ a h x s u v t. absurd (omega arith))
      (λ a h ih x s u v t. go a ih s u v t (same_or p a)) a x
    where
      go : (a : ℕ) → ((x : ℕ) → Asc x (slice (suc a) b l) → suc a ≤ p → p < q → q < b → get_or l p 0 < get_or l q 0)
          → {x : ℕ} → Asc x (get_or l a 0 ∷ slice (suc a) b l) → a ≤ p → p < q → q < b → (p ≡ a) ⊎ (p ≢ a) → get_or l p 0 < get_or l q 0
      go a ih s u v t (inl e) = rw e (asc-above (get_or l a 0) (slice (suc a) b l) s.1 (slice-into (suc a) b q l fits (omega arith) t))
      go a ih s u v t (inr e) = ih (get_or l a 0) s.1 (omega arith) v t

-- ---- after a store

pub slice-low : (a b i v : ℕ) (l : List ℕ) → i < a → slice a b (set l i v) ≡ slice a b l
slice-low a b i v l h = go (below_or i b)
  where
    go : (i < b) ⊎ (b ≤ i) → slice a b (set l i v) ≡ slice a b l
    go (inl w) = ap (drop a) (take-set-lt b l i v w) ∙ drop-set-lt a (take b l) i v h
    go (inr w) = ap (drop a) (take-set-le b l i v w)

pub slice-high : (a b i v : ℕ) (l : List ℕ) → b ≤ i → slice a b (set l i v) ≡ slice a b l
slice-high a b i v l h = ap (drop a) (take-set-le b l i v h)

pub slice-head : (b i v : ℕ) (l : List ℕ) → i < b → b ≤ length l → slice i b (set l i v) ≡ v ∷ slice (i + 1) b l
slice-head b i v l h g =
    let n = length-set l i v in
    slice-cons i b (set l i v) 0 h (omega arith)
    ∙ (ap (λ x. x ∷ slice (suc i) b (set l i v)) (get_or-set_same l i v 0 (omega arith)) ∙ rw add-one
    (ap (λ r. v ∷ r) (slice-low (suc i) b i v l (omega arith))))
