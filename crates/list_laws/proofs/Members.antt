-- Proves that the tests on lists are right: `member` passes exactly when the number is in the list, `same` exactly when the lists are the
-- same. And the number at a place of a list is in the list; functions that agree on its members agree on all of it.
-- Assumes nothing.
use Prim.Native.Nat.{ℕ, zero, suc, ◌<◌}
use mathlib.Core.Path.{◌≡◌, refl}
use mathlib.Core.Logic.{◌⊎◌, inl, inr}
use mathlib.Core.Bool.{true, false}
use mathlib.Core.List.Memᴰ
use mathlib.Core.List.{List, [], ◌∷◌, map, flat_map}
use native.Mathlib.Omega.{arith}
use lib.Dec.{eqb}
use lib.ListN.{length, get_or}
use borrow.Author.Tests.{eqb-true, eqb-false, eq-eqb}
use Rattle.papers.specs.Lists.{◌∈◌, member, same}
use Rattle.list_laws.proofs.Tests.{Test, passes, fails, test, true-false}

pub member-true : (x : ℕ) (l : List ℕ) → member x l ≡ true → x ∈ l
unfolding member
member-true x [] e = absurd (true-false e refl)
member-true x (y ∷ ys) e = go (test (eqb x y)) (λ q. member-true x ys q)
  where
    go : Test (eqb x y) → (member x ys ≡ true → x ∈ ys) → x ∈ (y ∷ ys)
    go (passes q) ih = Memᴰ.head (eqb-true x y q)
    go (fails q) ih = Memᴰ.tail (ih (rw (q, member) at e))

pub member-into : (x : ℕ) (l : List ℕ) → x ∈ l → member x l ≡ true
unfolding member
member-into x [] m = absurd (Memᴰ.not-nil m)
member-into x (y ∷ ys) m = go (test (eqb x y)) (Memᴰ.cases_cons m) (λ t. member-into x ys t)
  where
    go : Test (eqb x y) → (x ≡ y) ⊎ (x ∈ ys) → (x ∈ ys → member x ys ≡ true) → member x (y ∷ ys) ≡ true
    go (passes q) c ih = rw (q, member)
    go (fails q) (inl e) ih = absurd (eqb-false x y q e)
    go (fails q) (inr t) ih = rw (q, member) (ih t)

pub member-out : (x : ℕ) (l : List ℕ) → ¬ (x ∈ l) → member x l ≡ false
member-out x l h = go (test (member x l))
  where
    go : Test (member x l) → member x l ≡ false
    go (passes e) = absurd (h (member-true x l e))
    go (fails e) = e

pub same_true : (xs ys : List ℕ) → same xs ys ≡ true → xs ≡ ys
unfolding same
same_true [] [] e = refl
same_true [] (y ∷ ys) e = absurd (true-false e refl)
same_true (x ∷ xs) [] e = absurd (true-false e refl)
same_true (x ∷ xs) (y ∷ ys) e = go (test (eqb x y)) (λ q. same_true xs ys q)
  where
    go : Test (eqb x y) → (same xs ys ≡ true → xs ≡ ys) → ◌≡◌ {A = List ℕ} (x ∷ xs) (y ∷ ys)
    go (passes q) ih = let head = eqb-true x y q in let tail = ih (rw (q, same) at e) in cc
    go (fails q) ih = absurd (true-false (rw (q, same) at e) refl)

pub same_refl : (xs : List ℕ) → same xs xs ≡ true
unfolding same
same_refl [] = refl
same_refl (x ∷ xs) = rw (eq-eqb x x refl, same) (same_refl xs)

-- the number at a place of the list is in it
pub at_place : (l : List ℕ) (k : ℕ) → k < length l → get_or l k 0 ∈ l
at_place [] k h = absurd (omega arith)
at_place (y ∷ l) zero h = Memᴰ.head refl
at_place (y ∷ l) (suc k) h = Memᴰ.tail (at_place l k (omega arith))

-- and that of a list of images is an image
pub map_at : {B C : Type 0} (f : B → C) (l : List B) (k : ℕ) (b : B) (c : C) → k < length l → get_or (map f l) k c ≡ f (get_or l k b)
map_at f [] k b c h = absurd (omega arith)
map_at f (x ∷ l) zero b c h = refl
map_at f (x ∷ l) (suc k) b c h = map_at f l k b c (omega arith)

-- lists that agree on the members of cs, one behind the other
pub flat_map-same : (u v : ℕ → List ℕ) (cs : List ℕ) → ((c : ℕ) → c ∈ cs → u c ≡ v c) → flat_map u cs ≡ flat_map v cs
unfolding flat_map
flat_map-same u v [] h = refl
flat_map-same u v (c ∷ cs) h = rw (h c (Memᴰ.head refl), flat_map-same u v cs (λ d m. h d (Memᴰ.tail m)))
