-- Proves facts of lists without repeats: if another list has all of its numbers, it is no longer than that list; and two such lists that
-- share no number may be put together.
-- Assumes nothing.
use Prim.Native.Nat.{ℕ, suc, ◌≤◌}
use mathlib.Core.Path.{◌≡◌, refl, sym, ap, ◌∙◌}
use mathlib.Core.Logic.{◌⊎◌, inl, inr, ◌≢◌}
use mathlib.Core.Bool.{true, false}
use mathlib.Core.List.Memᴰ
use mathlib.Core.List.{List, [], ◌∷◌, ◌++◌}
use native.Mathlib.Omega.{arith}
use lib.Dec.{eqb}
use lib.ListN.{length}
use borrow.Author.Tests.{eqb-true, eqb-false}
use Rattle.papers.specs.Lists.{◌∈◌, Distinct, member}
use Rattle.list_laws.proofs.Tests.{Test, passes, fails, test, true-false}
use Rattle.list_laws.proofs.Members.{member-true, member-into}

-- the list without one x
without : ℕ → List ℕ → List ℕ
without x [] = []
without x (y ∷ ys) = elim (eqb x y) [ true ↦ ys | false ↦ y ∷ without x ys ]

without-length : (x : ℕ) (l : List ℕ) → x ∈ l → suc (length (without x l)) ≡ length l
unfolding without
without-length x [] m = absurd (Memᴰ.not-nil m)
without-length x (y ∷ ys) m = go (test (eqb x y)) (Memᴰ.cases_cons m) (λ t. without-length x ys t)
  where
    go : Test (eqb x y) → (x ≡ y) ⊎ (x ∈ ys) → (x ∈ ys → suc (length (without x ys)) ≡ length ys)
        → suc (length (without x (y ∷ ys))) ≡ suc (length ys)
    go (passes q) c ih = rw (q, without)
    go (fails q) (inl e) ih = absurd (eqb-false x y q e)
    go (fails q) (inr t) ih = rw (q, without) (ap suc (ih t))

without-keeps : (x i : ℕ) (l : List ℕ) → i ≢ x → i ∈ l → i ∈ without x l
unfolding without
without-keeps x i [] h m = m
without-keeps x i (y ∷ ys) h m = go (test (eqb x y)) (Memᴰ.cases_cons m) (λ t. without-keeps x i ys h t)
  where
    go : Test (eqb x y) → (i ≡ y) ⊎ (i ∈ ys) → (i ∈ ys → i ∈ without x ys) → i ∈ without x (y ∷ ys)
    go (passes q) (inl e) ih = absurd (h (e ∙ sym (eqb-true x y q)))
    go (passes q) (inr t) ih = rw (q, without) t
    go (fails q) (inl e) ih = rw (q, without) (Memᴰ.head e)
    go (fails q) (inr t) ih = rw (q, without) (Memᴰ.tail (ih t))

-- a list without repeats is no longer than a list that has all its numbers
pub distinct-length : (xs ys : List ℕ) → Distinct xs → ((i : ℕ) → i ∈ xs → i ∈ ys) → length xs ≤ length ys
distinct-length [] ys d h = omega arith
distinct-length (x ∷ xs) ys d h =
    let fewer = distinct-length xs (without x ys) d.1 (λ i m. without-keeps x i ys (λ e. d.0 (Memᴰ.cast (sym e) m)) (h i (Memᴰ.tail m))) in
    omega (arith, fewer, without-length x ys (h x (Memᴰ.head refl)))

pub same_length : (xs ys : List ℕ) → Distinct xs → Distinct ys → ((i : ℕ) → i ∈ xs → i ∈ ys) → ((i : ℕ) → i ∈ ys → i ∈ xs) → length xs ≡ length ys
same_length xs ys d e h k = omega (arith, distinct-length xs ys d h, distinct-length ys xs e k)

pub distinct_append : (xs ys : List ℕ) → Distinct (xs ++ ys) → Distinct xs × Distinct ys × ((i : ℕ) → i ∈ xs → i ∈ ys → ⊥)
distinct_append [] ys d = (tt, d, λ i m k. Memᴰ.not-nil m)
distinct_append (x ∷ xs) ys d =
    let (a, b, c) = distinct_append xs ys d.1 in
    ((λ m. d.0 (Memᴰ.append_left ys m), a), b, λ i m k. go i c k (Memᴰ.cases_cons m))
  where
    go : (i : ℕ) → ((i : ℕ) → i ∈ xs → i ∈ ys → ⊥) → i ∈ ys → (i ≡ x) ⊎ (i ∈ xs) → ⊥
    go i c k (inl e) = d.0 (Memᴰ.append_right xs (Memᴰ.cast (sym e) k))
    go i c k (inr t) = c i t k

pub distinct-join : (xs ys : List ℕ) → Distinct xs → Distinct ys → ((i : ℕ) → i ∈ xs → i ∈ ys → ⊥) → Distinct (xs ++ ys)
distinct-join [] ys d e h = e
distinct-join (x ∷ xs) ys d e h = (λ m. go (Memᴰ.append_cases xs m), distinct-join xs ys d.1 e (λ i m k. h i (Memᴰ.tail m) k))
  where
    go : (x ∈ xs) ⊎ (x ∈ ys) → ⊥
    go (inl m) = d.0 m
    go (inr m) = h x (Memᴰ.head refl) m

-- if a list has as many different numbers of another as that one is long, it has all of them
pub all_there : (xs ys : List ℕ) → Distinct xs → ((i : ℕ) → i ∈ xs → i ∈ ys) → length ys ≤ length xs → (y : ℕ) → y ∈ ys → y ∈ xs
all_there xs ys d h l y m = go (test (member y xs))
  where
    go : Test (member y xs) → y ∈ xs
    go (passes e) = member-true y xs e
    go (fails e) =
        absurd (omega (arith, distinct-length (y ∷ xs) ys (λ k. true-false (member-into y xs k) e, d) (λ i k. more i (Memᴰ.cases_cons k))))
      where
        more : (i : ℕ) → (i ≡ y) ⊎ (i ∈ xs) → i ∈ ys
        more i (inl q) = Memᴰ.cast q m
        more i (inr k) = h i k
