-- Proves the steps of marking and counting a list: no row occurs twice in it, so marking an earlier row never makes a later row an old one.
-- Assumes nothing.
use Prim.Native.Nat.{ℕ, suc, ◌+◌, ◌<◌, ◌≤◌}
use mathlib.Core.Path.{◌≡◌, refl, sym, ap, ◌∙◌}
use mathlib.Core.Logic.{◌≢◌}
use mathlib.Core.Bool.{Bool, true, false, not}
use mathlib.Core.List.Memᴰ
use mathlib.Core.List.{List, [], ◌∷◌}
use native.Mathlib.Omega.{arith}
use native.Mathlib.Numerals.{add-one}
use lib.ListN.{length, get_or, drop, set, drop_of_length-le}
use lib.Seq.{drop-cons, get_or-set_other, set-get_or}
use borrow.Author.Tests.{eq-eqb, ne_eqb}
use Rattle.papers.specs.Lists.{◌∈◌, Distinct}
use Rattle.list_laws.proofs.Keeps.{keep-nil, keep-yes, keep-no}
use Rattle.child_lists.specs.Marks.{is_marked}
use Rattle.child_lists.proofs.Marks.{Marking, mark-begin, mark-turn, mark-stop}
use Rattle.check_marks.specs.Marked.{new_rows, MarkableOnce, MarkedNew}

-- tests whether a row is not marked
abbrev pub is_new : ℕ → ℕ → List ℕ → ℕ → Bool
is_new n j w i = not (is_marked n j w i)

pub new-no : (n j : ℕ) (w : List ℕ) (i : ℕ) → get_or w (n + n + i) 0 ≡ j → is_new n j w i ≡ false
new-no n j w i e = rw (eq-eqb (get_or w (n + n + i) 0) j e)

new-yes : (n j : ℕ) (w : List ℕ) (i : ℕ) → get_or w (n + n + i) 0 ≢ j → is_new n j w i ≡ true
new-yes n j w i e = rw (ne_eqb (get_or w (n + n + i) 0) j e)

-- the first k rows of the list are marked, count of them newly; the marks of the others stay
pub record Newly (n j : ℕ) (l w₀ w : List ℕ) (count k : ℕ) : Type 0 where
  pub marking : Marking n j l w₀ w k
  pub counted : count + length (new_rows n j w₀ (drop k l)) ≡ length (new_rows n j w₀ l)
  pub few : count ≤ k
  pub once : Distinct (drop k l)
  pub ahead : (i : ℕ) → i ∈ drop k l → get_or w (n + n + i) 0 ≡ get_or w₀ (n + n + i) 0

pub new-begin : (j : ℕ) {n : ℕ} {l w : List ℕ} → MarkableOnce n l w → Newly n j l w w 0 0
new-begin j {n} {l} {w} m =
    record { marking = mark-begin n j l w; counted = omega arith; few = omega arith; once = m.once; ahead = λ i t. refl }

module _ {n j : ℕ} {l w₀ w : List ℕ} {count k : ℕ} (m : Newly n j l w₀ w count k) (h : k < length l) where
  split : drop k l ≡ get_or l k 0 ∷ drop (suc k) l
  split = drop-cons l k 0 h

  apart : Distinct (get_or l k 0 ∷ drop (suc k) l)
  apart = rw split at m.once

  later : (i : ℕ) → i ∈ drop (k + 1) l → i ∈ drop k l
  later i t = rw split (Memᴰ.tail (rw add-one at t))

  here : get_or w (n + n + get_or l k 0) 0 ≡ get_or w₀ (n + n + get_or l k 0) 0
  here = m.ahead (get_or l k 0) (rw split (Memᴰ.head refl))

  -- the row was marked before
  pub new-old : get_or w (n + n + get_or l k 0) 0 ≡ j → Newly n j l w₀ (set w (n + n + get_or l k 0) j) count (k + 1)
  new-old e =
      let same : set w (n + n + get_or l k 0) j ≡ w = ap (set w (n + n + get_or l k 0)) (sym e) ∙ set-get_or w (n + n + get_or l k 0) 0 in
      let none = keep-no (is_new n j w₀) (get_or l k 0) (drop (suc k) l) (new-no n j w₀ (get_or l k 0) (sym here ∙ e)) in
      record {
        marking = mark-turn m.marking h;
        counted = rw (add-one, ← none, ← split) m.counted;
        few = omega (arith, m.few);
        once = rw add-one apart.1;
        ahead = λ i t. ap (λ (v : List ℕ). get_or v (n + n + i) 0) same ∙ m.ahead i (later i t);
      }

  -- the row was not marked before
  pub new-mark : get_or w (n + n + get_or l k 0) 0 ≢ j → Newly n j l w₀ (set w (n + n + get_or l k 0) j) (count + 1) (k + 1)
  new-mark e =
      let one = keep-yes (is_new n j w₀) (get_or l k 0) (drop (suc k) l) (new-yes n j w₀ (get_or l k 0) (λ q. e (here ∙ q))) in
      let whole : count + length (get_or l k 0 ∷ new_rows n j w₀ (drop (suc k) l)) ≡ length (new_rows n j w₀ l) = rw (split, one) at m.counted in
      record {
        marking = mark-turn m.marking h;
        counted = rw (add-one k) (omega arith);
        few = omega (arith, m.few);
        once = rw add-one apart.1;
        ahead = λ i t. get_or-set_other w (n + n + get_or l k 0) (n + n + i) j 0 (λ q. differs i (rw add-one at t) (omega arith)) ∙ m.ahead i
            (later i t);
      }
    where
      differs : (i : ℕ) → i ∈ drop (suc k) l → i ≡ get_or l k 0 → ⊥
      differs i t q = apart.0 (Memᴰ.cast (sym q) t)

pub new-stop : {n j : ℕ} {l w₀ w : List ℕ} {count k : ℕ} → Newly n j l w₀ w count k → length l ≤ k → MarkedNew n j l w₀ w count
new-stop {n} {j} {l} {w₀} {count = count} m h =
    let none : count + length (new_rows n j w₀ []) ≡ length (new_rows n j w₀ l) = rw (drop_of_length-le l h) at m.counted in
    record { counts = omega (arith, none, ap length (keep-nil (is_new n j w₀))); marks = mark-stop m.marking h }
