-- Proves that the lists of several columns, joined one after the other, give the numbers of all of them, ascending if each list ascends.
-- Assumes nothing.
use Prim.Native.Nat.{ℕ}
use mathlib.Core.Path.{◌≡◌, refl}
use mathlib.Core.Logic.{◌⊎◌, inl, inr, ⊎_elim}
use mathlib.Core.List.Memᴰ
use mathlib.Core.List.{List, [], ◌∷◌}
use Rattle.papers.specs.Lists.{◌∈◌, Asc, merge}
use Rattle.list_laws.proofs.Merges.{merge-asc, merge-left, merge-right, merge-from}

-- acc joined with the list of each column in turn
abbrev pub join_all : (ℕ → List ℕ) → List ℕ → List ℕ → List ℕ
join_all f [] acc = acc
join_all f (c ∷ cs) acc = join_all f cs (merge acc (f c))

module _ (f : ℕ → List ℕ) where
  pub join-asc : (b : ℕ) (cs acc : List ℕ) → Asc b acc → ((c : ℕ) → c ∈ cs → Asc b (f c)) → Asc b (join_all f cs acc)
  join-asc b [] acc s h = s
  join-asc b (c ∷ cs) acc s h = join-asc b cs (merge acc (f c)) (merge-asc b acc (f c) s (h c (Memᴰ.head refl))) (λ d m. h d (Memᴰ.tail m))

  pub join-acc : (cs acc : List ℕ) {i : ℕ} → i ∈ acc → i ∈ join_all f cs acc
  join-acc [] acc m = m
  join-acc (c ∷ cs) acc m = join-acc cs (merge acc (f c)) (merge-left acc (f c) m)

  pub join-into : (cs acc : List ℕ) (c : ℕ) {i : ℕ} → c ∈ cs → i ∈ f c → i ∈ join_all f cs acc
  join-into [] acc c h m = absurd (Memᴰ.not-nil h)
  join-into (d ∷ cs) acc c {i} h m = go (Memᴰ.cases_cons h) (λ t. join-into cs (merge acc (f d)) c t m)
    where
      go : (c ≡ d) ⊎ (c ∈ cs) → (c ∈ cs → i ∈ join_all f cs (merge acc (f d))) → i ∈ join_all f cs (merge acc (f d))
      go (inl e) ih = join-acc cs (merge acc (f d)) (merge-right acc (f d) (rw e at m))
      go (inr t) ih = ih t

  pub join-from : (P : ℕ → Type 0) (cs acc : List ℕ) → ((i : ℕ) → i ∈ acc → P i) → ((c i : ℕ) → c ∈ cs → i ∈ f c → P i) → (i : ℕ)
      → i ∈ join_all f cs acc → P i
  join-from P [] acc a h i m = a i m
  join-from P (c ∷ cs) acc a h i m = join-from P cs (merge acc (f c))
      (λ i m. ⊎_elim (λ (t : i ∈ acc). a i t) (λ (t : i ∈ f c). h c i (Memᴰ.head refl) t) (merge-from acc (f c) m))
      (λ d i m t. h d i (Memᴰ.tail m) t)
      i m
