-- Proves that the library compares two lists as the rules do. And it counts the marked rows of a list one by one.
-- Assumes nothing.
use Prim.Native.Nat.{ℕ, suc, ◌+◌, ◌-◌, ◌<◌, ◌≤◌}
use mathlib.Core.Path.{◌≡◌, refl, ap}
use mathlib.Core.Logic.{◌≢◌}
use mathlib.Core.Bool.{Bool, true, false, ◌&&◌}
use mathlib.Core.List.Memᴰ
use mathlib.Core.List.{List, [], ◌∷◌}
use native.Mathlib.Omega.{arith}
use native.Mathlib.Numerals.{add-one}
use lib.Dec.{eqb}
use lib.Pointwise.{pointwise}
use lib.ListN.{length, get_or, take, drop, drop_of_length-le, take-append-drop}
use lib.Seq.{drop-cons}
use borrow.Author.Tests.{eq-eqb, ne_eqb}
use Rattle.papers.specs.Lists.{keep, same}
use Rattle.list_laws.proofs.Tests.{Test, passes, fails, test}
use Rattle.list_laws.proofs.Keeps.{keep-nil, keep-yes, keep-no}
use Rattle.list_laws.proofs.Parts.{part-last}
use Rattle.child_lists.specs.Marks.{Markable}

-- the library's test of slices is the rules' test of lists
pub pointwise-same : (a b : List ℕ) → pointwise eqb a b ≡ same a b
unfolding same
pointwise-same [] [] = refl
pointwise-same [] (y ∷ b) = refl
pointwise-same (x ∷ a) [] = refl
pointwise-same (x ∷ a) (y ∷ b) = go (test (eqb x y)) (pointwise-same a b)
  where
    go : Test (eqb x y) → pointwise eqb a b ≡ same a b → pointwise eqb (x ∷ a) (y ∷ b) ≡ same (x ∷ a) (y ∷ b)
    go (passes e) ih = rw (e, same) ih
    go (fails e) ih = rw (e, same)

-- ---- counts the rows that pass a test

pub record Counts (f : ℕ → Bool) (l : List ℕ) (count k : ℕ) : Type 0 where
  pub counted : count + length (keep f (drop k l)) ≡ length (keep f l)
  pub few : count ≤ k

module _ {f : ℕ → Bool} {l : List ℕ} {count k : ℕ} (s : Counts f l count k) where
  module _ (h : k < length l) where
    pub counts-one : f (get_or l k 0) ≡ true → Counts f l (count + 1) (k + 1)
    counts-one e =
        let whole : count + length (get_or l k 0 ∷ keep f (drop (suc k) l)) ≡ length (keep f l) = rw
        (drop-cons l k 0 h, keep-yes f (get_or l k 0) (drop (suc k) l) e) at s.counted in
        record { counted = rw (add-one k) (omega arith); few = omega (arith, s.few) }

    pub counts-none : f (get_or l k 0) ≡ false → Counts f l count (k + 1)
    counts-none e =
        let whole : count + length (keep f (drop (suc k) l)) ≡ length (keep f l) = rw (drop-cons l k 0 h, keep-no f (get_or l k 0) (drop (suc k) l) e)
        at s.counted in
        record { counted = rw add-one whole; few = omega (arith, s.few) }

  pub counts_end : length l ≤ k → count ≡ length (keep f l)
  counts_end h =
      let whole : count + length (keep f []) ≡ length (keep f l) = rw (drop_of_length-le l h) at s.counted in
      omega (arith, ap length (keep-nil f))

-- ---- two tests, the first of them on numbers

pub not-both : (x y : ℕ) (b : Bool) → x ≢ y → false ≡ (eqb x y && b)
not-both x y b h = rw (ne_eqb x y h)

pub then-other : (x y : ℕ) (b : Bool) → x ≡ y → b ≡ (eqb x y && b)
then-other x y b h = rw (eq-eqb x y h)

-- ---- the rest of a list as a part of its slice

pub rest-markable : {n : ℕ} {list w w₁ : List ℕ} (p : ℕ) → Markable n list w → length w₁ ≡ length w
    → Markable n (take (length list - p) (drop p list)) w₁
rest-markable {list = list} p m e =
    record {
      most = λ i t. m.most i (rw (← take-append-drop p list) (Memᴰ.append_right (take p list) (rw (part-last list p) at t)));
      long = rw e m.long;
    }
