-- Proves how a column's list grows: one child is joined, or is skipped since it brings nothing. At the end the list made so far is the whole, since
-- two ascending lists with the same numbers are equal.
-- Assumes nothing.
use Prim.Native.Nat.{ℕ, ◌≤◌}
use mathlib.Core.Path.{◌≡◌, refl}
use mathlib.Core.Logic.{◌⊎◌, inl, inr, ⊎_elim}
use mathlib.Core.List.Memᴰ
use mathlib.Core.List.{List, [], ◌∷◌}
use native.Mathlib.Omega.{arith}
use lib.ListN.{length}
use Rattle.papers.specs.Lists.{◌∈◌, merge}
use Rattle.list_laws.proofs.Ascending.{asc-ext, asc-length}
use Rattle.list_laws.proofs.Merges.{merge-asc, merge-left, merge-right, merge-from}
use Rattle.child_lists.specs.Joining.{Makes}

module _ {j : ℕ} {f : ℕ → List ℕ} where
  module _ {c : ℕ} {cs acc whole : List ℕ} (m : Makes j f (c ∷ cs) acc whole) where
    -- skips a child that brings nothing new
    pub makes-skip : ((i : ℕ) → i ∈ f c → i ∈ acc) → Makes j f cs acc whole
    makes-skip h =
        record {
          asc = m.asc;
          asc-whole = m.asc-whole;
          asc-hands = λ d t. m.asc-hands d (Memᴰ.tail t);
          acc-in = m.acc-in;
          hands_in = λ d i t. m.hands_in d i (Memᴰ.tail t);
          made = λ i t. made i (m.made i t);
        }
      where
        by-child : (d i : ℕ) → (d ≡ c) ⊎ (d ∈ cs) → i ∈ f d → (i ∈ acc) ⊎ ((d : ℕ) × ((d ∈ cs) × (i ∈ f d)))
        by-child d i (inl e) t = inl (h i (rw e at t))
        by-child d i (inr k) t = inr (d, (k, t))

        made : (i : ℕ) → (i ∈ acc) ⊎ ((d : ℕ) × ((d ∈ (c ∷ cs)) × (i ∈ f d))) → (i ∈ acc) ⊎ ((d : ℕ) × ((d ∈ cs) × (i ∈ f d)))
        made i (inl t) = inl t
        made i (inr t) = by-child t.0 i (Memᴰ.cases_cons t.1.0) t.1.1

    wider : Makes j f (c ∷ cs) (merge acc (f c)) whole
    wider =
        record {
          asc = merge-asc j acc (f c) m.asc (m.asc-hands c (Memᴰ.head refl));
          asc-whole = m.asc-whole;
          asc-hands = m.asc-hands;
          acc-in = λ i t. ⊎_elim (λ (u : i ∈ acc). m.acc-in i u) (λ (u : i ∈ f c). m.hands_in c i (Memᴰ.head refl) u) (merge-from acc (f c) t);
          hands_in = m.hands_in;
          made = λ i t. made i (m.made i t);
        }
      where
        made : (i : ℕ) → (i ∈ acc) ⊎ ((d : ℕ) × ((d ∈ (c ∷ cs)) × (i ∈ f d))) → (i ∈ merge acc (f c)) ⊎ ((d : ℕ) × ((d ∈ (c ∷ cs)) × (i ∈ f d)))
        made i (inl t) = inl (merge-left acc (f c) t)
        made i (inr t) = inr t

  -- joins a child
  pub makes-join : {c : ℕ} {cs acc whole : List ℕ} → Makes j f (c ∷ cs) acc whole → Makes j f cs (merge acc (f c)) whole
  makes-join {c} {cs} {acc} m = makes-skip (wider m) (λ i t. merge-right acc (f c) t)

  -- once all children are joined, the list is whole
  pub makes-end : {acc whole : List ℕ} → Makes j f [] acc whole → acc ≡ whole
  makes-end {acc} {whole} m = asc-ext j acc whole m.asc m.asc-whole m.acc-in (λ i t. only i (m.made i t))
    where
      only : (i : ℕ) → (i ∈ acc) ⊎ ((d : ℕ) × ((d ∈ []) × (i ∈ f d))) → i ∈ acc
      only i (inl t) = t
      only i (inr t) = absurd (Memᴰ.not-nil t.1.0)

  -- two lists made so are equal
  pub makes-only : {cs acc whole other : List ℕ} → Makes j f cs acc whole → Makes j f cs acc other → whole ≡ other
  makes-only {cs} {acc} {whole} {other} m k = asc-ext j whole other m.asc-whole k.asc-whole (λ i t. there m k i t) (λ i t. there k m i t)
    where
      there : {a b : List ℕ} → Makes j f cs acc a → Makes j f cs acc b → (i : ℕ) → i ∈ a → i ∈ b
      there {a} {b} m k i t =
          ⊎_elim (λ (u : i ∈ acc). k.acc-in i u) (λ (u : (d : ℕ) × ((d ∈ cs) × (i ∈ f d))). k.hands_in u.0 i u.1.0 u.1.1) (m.made i t)

  -- the list never exceeds n rows
  pub makes-few : {n : ℕ} {cs acc whole : List ℕ} → ((i : ℕ) → i ∈ whole → i ≤ n) → Makes j f cs acc whole → length acc ≤ n
  makes-few {n} {cs} {acc} h m = omega (arith, asc-length n j acc m.asc (λ i t. h i (m.acc-in i t)))
