-- Proves that a reversed list has the same elements, each as often.
-- Assumes nothing.
use Prim.Native.Nat.{ℕ}
use mathlib.Core.Path.{◌≡◌, sym}
use mathlib.Core.Logic.{◌⊎◌, inl, inr, ◌↔◌}
use mathlib.Core.List.Memᴰ
use mathlib.Core.List.{List, [], ◌∷◌, reverse, reverse_aux, reverse-cons}
use Rattle.papers.specs.Lists.{◌∈◌, Distinct}
use Rattle.list_laws.proofs.Counts.{distinct-join}

pub reverse-from : (l r : List ℕ) {x : ℕ} → x ∈ reverse_aux l r → (x ∈ l) ⊎ (x ∈ r)
reverse-from [] r m = inr m
reverse-from (y ∷ l) r {x} m = go (reverse-from l (y ∷ r) m)
  where
    on : (x ≡ y) ⊎ (x ∈ r) → (x ∈ (y ∷ l)) ⊎ (x ∈ r)
    on (inl e) = inl (Memᴰ.head e)
    on (inr k) = inr k

    go : (x ∈ l) ⊎ (x ∈ (y ∷ r)) → (x ∈ (y ∷ l)) ⊎ (x ∈ r)
    go (inl k) = inl (Memᴰ.tail k)
    go (inr k) = on (Memᴰ.cases_cons k)

pub reverse-right : (l r : List ℕ) {x : ℕ} → x ∈ r → x ∈ reverse_aux l r
reverse-right [] r m = m
reverse-right (y ∷ l) r m = reverse-right l (y ∷ r) (Memᴰ.tail m)

pub reverse-left : (l r : List ℕ) {x : ℕ} → x ∈ l → x ∈ reverse_aux l r
reverse-left [] r m = absurd (Memᴰ.not-nil m)
reverse-left (y ∷ l) r {x} m = go (Memᴰ.cases_cons m) (λ k. reverse-left l (y ∷ r) k)
  where
    go : (x ≡ y) ⊎ (x ∈ l) → (x ∈ l → x ∈ reverse_aux l (y ∷ r)) → x ∈ reverse_aux l (y ∷ r)
    go (inl e) ih = reverse-right l (y ∷ r) (Memᴰ.head e)
    go (inr k) ih = ih k

-- a reversed list has the same elements
pub reversed-mem : (l : List ℕ) {x : ℕ} → (x ∈ reverse l) ↔ (x ∈ l)
reversed-mem l {x} = (λ m. only (reverse-from l [] m), λ m. reverse-left l [] m)
  where
    only : (x ∈ l) ⊎ (x ∈ []) → x ∈ l
    only (inl m) = m
    only (inr m) = absurd (Memᴰ.not-nil m)

pub reverse-distinct : (l : List ℕ) → Distinct l → Distinct (reverse l)
reverse-distinct [] d = tt
reverse-distinct (x ∷ l) d =
    rw (reverse-cons x l)
    (distinct-join (reverse l) (x ∷ []) (reverse-distinct l d.1) (λ m. Memᴰ.not-nil m, tt)
    (λ i m k. d.0 (Memᴰ.cast (sym (Memᴰ.eq_of_singleton k)) ((reversed-mem l).0 m))))
