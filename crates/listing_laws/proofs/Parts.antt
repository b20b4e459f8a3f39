-- Proves that the lists of some distinct columns have no more rows than the lists of all columns: each of them can be taken out of all
-- once.
-- Assumes nothing.
use Prim.Native.Nat.{ℕ, ◌+◌, ◌≤◌}
use mathlib.Core.Path.{◌≡◌, refl, sym, ap}
use mathlib.Core.Logic.{◌⊎◌, inl, inr}
use mathlib.Core.List.Memᴰ
use mathlib.Core.List.{List, [], ◌∷◌, ◌++◌, map, map-append}
use native.Mathlib.Omega.{arith}
use lib.ListN.{length, length-append}
use Rattle.papers.specs.Lists.{◌∈◌, Distinct, flat}
use Rattle.list_laws.proofs.Stores.{flat_append}

-- a list split at one of its numbers
record Around (x : ℕ) (l : List ℕ) : Type 0 where
  before : List ℕ
  behind : List ℕ
  whole : l ≡ before ++ (x ∷ behind)

around : (x : ℕ) (l : List ℕ) → x ∈ l → Around x l
around x [] m = absurd (Memᴰ.not-nil m)
around x (y ∷ l) m = go (Memᴰ.cases_cons m) (λ t. around x l t)
  where
    go : (x ≡ y) ⊎ (x ∈ l) → (x ∈ l → Around x l) → Around x (y ∷ l)
    go (inl e) ih = record { before = []; behind = l; whole = ap (λ (z : ℕ). z ∷ l) (sym e) }
    go (inr t) ih = let a = ih t in record { before = y ∷ a.before; behind = a.behind; whole = ap (λ (z : List ℕ). y ∷ z) a.whole }

module _ (B : ℕ → List ℕ) where
  -- the rows of the columns of a list
  rows : List ℕ → ℕ
  rows l = length (flat (map B l))

  rows_none : rows [] ≡ 0
  unfolding rows flat
  rows_none = refl

  rows_append : (a b : List ℕ) → rows (a ++ b) ≡ rows a + rows b
  unfolding rows
  rows_append a b = rw (map-append B a b, flat_append (map B a) (map B b)) (length-append (flat (map B a)) (flat (map B b)))

  rows-cons : (x : ℕ) (b : List ℕ) → rows (x ∷ b) ≡ length (B x) + rows b
  unfolding rows flat
  rows-cons x b = length-append (B x) (flat (map B b))

  -- if the columns of xs are distinct and all in ys, they have no more rows
  distinct-rows : (xs ys : List ℕ) → Distinct xs → ((i : ℕ) → i ∈ xs → i ∈ ys) → rows xs ≤ rows ys
  distinct-rows [] ys d h = omega (arith, rows_none)
  distinct-rows (x ∷ xs) ys d h =
      let a = around x ys (h x (Memᴰ.head refl)) in
      let p = a.before in
      let q = a.behind in
      let fewer = distinct-rows xs (p ++ q) d.1
      (λ i m. other i m a.whole (Memᴰ.append_cases p (rw a.whole at (h i (Memᴰ.tail m))))) in
      omega (arith, fewer, rows-cons x xs, rows_append p q, rows_append p (x ∷ q), rows-cons x q, ap rows a.whole)
    where
      other : (i : ℕ) → i ∈ xs → {p q : List ℕ} → ys ≡ p ++ (x ∷ q) → (i ∈ p) ⊎ (i ∈ (x ∷ q)) → i ∈ (p ++ q)
      other i m {p} {q} e (inl l) = Memᴰ.append_left q l
      other i m {p} {q} e (inr r) = go (Memᴰ.cases_cons r)
        where
          go : (i ≡ x) ⊎ (i ∈ q) → i ∈ (p ++ q)
          go (inl s) = absurd (d.0 (Memᴰ.cast (sym s) m))
          go (inr t) = Memᴰ.append_right p t

  pub distinct-flat : (xs ys : List ℕ) → Distinct xs → ((i : ℕ) → i ∈ xs → i ∈ ys) → length (flat (map B xs)) ≤ length (flat (map B ys))
  unfolding rows
  distinct-flat = distinct-rows
