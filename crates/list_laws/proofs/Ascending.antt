-- Proves facts of ascending lists: each number is above the bound, none occurs twice, and the numbers alone decide the list.
-- Assumes nothing.
use Prim.Native.Nat.{ℕ, ◌-◌, ◌<◌, ◌≤◌}
use mathlib.Core.Path.{◌≡◌, refl, sym}
use mathlib.Core.Logic.{◌⊎◌, inl, inr}
use mathlib.Core.List.Memᴰ
use mathlib.Core.List.{List, [], ◌∷◌, ◌++◌}
use native.Mathlib.Omega.{arith}
use lib.ListN.{length}
use Rattle.papers.specs.Lists.{◌∈◌, Asc, Distinct}

-- the bound may be any number below all of the list
pub asc-bound : (a b : ℕ) (l : List ℕ) → Asc b l → ((i : ℕ) → i ∈ l → a < i) → Asc a l
asc-bound a b [] s h = tt
asc-bound a b (x ∷ xs) s h = (h x (Memᴰ.head refl), s.1)

pub asc-above : (b : ℕ) (l : List ℕ) {i : ℕ} → Asc b l → i ∈ l → b < i
asc-above b [] s m = absurd (Memᴰ.not-nil m)
asc-above b (x ∷ xs) {i} s m = go (Memᴰ.cases_cons m) (λ t. asc-above x xs s.1 t)
  where
    go : (i ≡ x) ⊎ (i ∈ xs) → (i ∈ xs → x < i) → b < i
    go (inl e) ih = omega arith
    go (inr t) ih = omega (arith, ih t)

pub asc-weaken : (a b : ℕ) (l : List ℕ) → a ≤ b → Asc b l → Asc a l
asc-weaken a b l h s = asc-bound a b l s (λ i m. omega (arith, asc-above b l s m))

pub asc-distinct : (b : ℕ) (l : List ℕ) → Asc b l → Distinct l
asc-distinct b [] s = tt
asc-distinct b (x ∷ xs) s = (λ m. omega (arith, asc-above x xs s.1 m), asc-distinct x xs s.1)

-- a number above all others may be put at the end
pub asc-append : (b : ℕ) (xs : List ℕ) (y : ℕ) → Asc b xs → b < y → ((i : ℕ) → i ∈ xs → i < y) → Asc b (xs ++ (y ∷ []))
asc-append b [] y s l h = (l, tt)
asc-append b (x ∷ xs) y s l h = (s.0, asc-append x xs y s.1 (h x (Memᴰ.head refl)) (λ i m. h i (Memᴰ.tail m)))

-- there are at most n - b numbers above b and up to n
pub asc-length : (n b : ℕ) (l : List ℕ) → Asc b l → ((i : ℕ) → i ∈ l → i ≤ n) → length l ≤ n - b
asc-length n b [] s h = omega arith
asc-length n b (x ∷ xs) s h = omega (arith, asc-length n x xs s.1 (λ i m. h i (Memᴰ.tail m)), h x (Memᴰ.head refl))

pub drop_head : {i : ℕ} (x : ℕ) {xs : List ℕ} → ¬ (i ≡ x) → i ∈ (x ∷ xs) → i ∈ xs
drop_head x h (Memᴰ.head e) = absurd (h e)
drop_head x h (Memᴰ.tail m) = m

-- two ascending lists with the same numbers are the same list
pub asc-ext : (b : ℕ) (xs ys : List ℕ) → Asc b xs → Asc b ys → ((i : ℕ) → i ∈ xs → i ∈ ys) → ((i : ℕ) → i ∈ ys → i ∈ xs) → xs ≡ ys
asc-ext b [] [] s t f g = refl
asc-ext b [] (y ∷ ys) s t f g = absurd (Memᴰ.not-nil (g y (Memᴰ.head refl)))
asc-ext b (x ∷ xs) [] s t f g = absurd (Memᴰ.not-nil (f x (Memᴰ.head refl)))
asc-ext b (x ∷ xs) (y ∷ ys) s t f g =
    let heads : x ≡ y = e in
    let tails = asc-ext x xs ys s.1 (asc-weaken x y ys (omega arith) t.1) (λ i m. into i m) (λ i m. back i m) in
    cc
  where
    go : (x ≡ y) ⊎ (x ∈ ys) → (y ≡ x) ⊎ (y ∈ xs) → x ≡ y
    go (inl p) q = p
    go (inr p) (inl q) = sym q
    go (inr p) (inr q) = omega (arith, asc-above y ys t.1 p, asc-above x xs s.1 q)

    e : x ≡ y
    e = go (Memᴰ.cases_cons (f x (Memᴰ.head refl))) (Memᴰ.cases_cons (g y (Memᴰ.head refl)))

    into : (i : ℕ) → i ∈ xs → i ∈ ys
    into i m = drop_head y (λ q. omega (arith, e, asc-above x xs s.1 m)) (f i (Memᴰ.tail m))

    back : (i : ℕ) → i ∈ ys → i ∈ xs
    back i m = drop_head x (λ q. omega (arith, e, asc-above y ys t.1 m)) (g i (Memᴰ.tail m))
