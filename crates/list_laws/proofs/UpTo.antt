-- Proves that `up_to n` consists of the numbers 1 to n, ascending, each once: n numbers. And the list of what a family has for each of them.
-- Assumes nothing.
use Prim.Native.Nat.{ℕ, zero, suc, ◌<◌, ◌≤◌}
use mathlib.Core.Path.{◌≡◌, refl, sym, ap, ◌∙◌}
use mathlib.Core.Logic.{◌⊎◌, inl, inr}
use mathlib.Core.List.{[], ◌∷◌, ◌++◌, map, map-append}
use mathlib.Core.List.Memᴰ
use native.Mathlib.Omega.{arith}
use native.Mathlib.Nat.{le-suc_iff}
use lib.ListN.{length, get_or, length-append, length-map, get_or-append}
use lib.Seq.{get_or_at}
use Rattle.papers.specs.Lists.{◌∈◌, Asc, Distinct, up_to}
use Rattle.list_laws.proofs.Ascending.{asc-append, asc-distinct}

pub up_to-range : (n x : ℕ) → x ∈ up_to n → (1 ≤ x) × (x ≤ n)
unfolding up_to
up_to-range zero x m = absurd (Memᴰ.not-nil m)
up_to-range (suc n) x m = go (Memᴰ.append_cases (up_to n) m) (λ t. up_to-range n x t)
  where
    go : (x ∈ up_to n) ⊎ (x ∈ (suc n ∷ [])) → (x ∈ up_to n → (1 ≤ x) × (x ≤ n)) → (1 ≤ x) × (x ≤ suc n)
    go (inl t) ih = let r = ih t in (r.0, omega arith)
    go (inr (Memᴰ.head e)) ih = (omega arith, omega arith)
    go (inr (Memᴰ.tail t)) ih = absurd (Memᴰ.not-nil t)

pub up_to-into : (n x : ℕ) → 1 ≤ x → x ≤ n → x ∈ up_to n
unfolding up_to
up_to-into zero x l u = absurd (omega arith)
up_to-into (suc n) x l u = go (le-suc_iff.0 u) (λ u'. up_to-into n x l u')
  where
    go : (x ≤ n) ⊎ (x ≡ suc n) → (x ≤ n → x ∈ up_to n) → x ∈ (up_to n ++ (suc n ∷ []))
    go (inl u') ih = Memᴰ.append_left (suc n ∷ []) (ih u')
    go (inr e) ih = Memᴰ.append_right (up_to n) (Memᴰ.head e)

pub up_to-asc : (n : ℕ) → Asc 0 (up_to n)
unfolding up_to
up_to-asc zero = tt
up_to-asc (suc n) = asc-append 0 (up_to n) (suc n) (up_to-asc n) (omega arith) (λ i m. omega (arith, (up_to-range n i m).1))

pub up_to-distinct : (n : ℕ) → Distinct (up_to n)
up_to-distinct n = asc-distinct 0 (up_to n) (up_to-asc n)

pub length-up_to : (n : ℕ) → length (up_to n) ≡ n
unfolding up_to
length-up_to zero = refl
length-up_to (suc n) = rw (length-append (up_to n) (suc n ∷ []), length-up_to n) (omega arith)

-- ---- what a family has for the columns 1 to n

module _ {ℓ} {B : Type ℓ} (f : ℕ → B) where
  -- one column more
  pub map-up_to : (n : ℕ) → map f (up_to (suc n)) ≡ map f (up_to n) ++ (f (suc n) ∷ [])
  unfolding up_to
  map-up_to n = map-append f (up_to n) (suc n ∷ [])

  pub length-family : (n : ℕ) → length (map f (up_to n)) ≡ n
  length-family n = length-map (up_to n) f ∙ length-up_to n

  -- that for column k + 1 stands at place k
  pub family-at : (n k : ℕ) (d : B) → k < n → get_or (map f (up_to n)) k d ≡ f (suc k)
  family-at zero k d h = absurd (omega arith)
  family-at (suc n) k d h = go (le-suc_iff.0 h) (λ l. family-at n k d l)
    where
      go : (suc k ≤ n) ⊎ (suc k ≡ suc n) → (k < n → get_or (map f (up_to n)) k d ≡ f (suc k)) → get_or (map f (up_to (suc n))) k d ≡ f (suc k)
      go (inl l) ih = rw (map-up_to n, get_or-append (map f (up_to n)) (f (suc n) ∷ []) d k (omega (arith, length-family n))) (ih l)
      go (inr e) ih = rw (map-up_to n) (get_or_at (map f (up_to n)) (f (suc n)) [] d k (omega (arith, length-family n)) ∙ ap f (sym e))
