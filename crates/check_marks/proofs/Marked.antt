-- Proves that marking the rows of a second ascending list gives the marks of the two lists joined, which has as many rows more as were not marked
-- before.
-- Assumes nothing.
use Prim.Native.Nat.{ℕ, ◌+◌, ◌<◌, ◌≤◌}
use mathlib.Core.Path.{◌≡◌, refl, ◌∙◌}
use mathlib.Core.Logic.{◌⊎◌, inl, inr, ⊎_elim}
use mathlib.Core.List.Memᴰ
use mathlib.Core.List.{List, [], ◌∷◌, ◌++◌}
use native.Mathlib.Omega.{arith}
use lib.ListN.{length, get_or, set, length-set, length-append}
use lib.Seq.{get_or-set_same}
use borrow.Author.Tests.{eqb-true, not-false}
use Rattle.papers.specs.Lists.{◌∈◌, Asc, merge}
use Rattle.list_laws.proofs.Tests.{Test, passes, fails, test, true-false}
use Rattle.list_laws.proofs.Ascending.{asc-above, asc-distinct}
use Rattle.list_laws.proofs.Counts.{same_length, distinct-join}
use Rattle.list_laws.proofs.Keeps.{keep-from, keep-into, keep-distinct}
use Rattle.list_laws.proofs.Merges.{merge-asc, merge-left, merge-right, merge-from}
use Rattle.child_lists.specs.Marks.{marked, is_marked, Markable}
use Rattle.child_lists.proofs.Marks.{marked-cases, marks-sound}
use Rattle.check_marks.specs.Marked.{new_rows, MarkedAre}
use Rattle.check_marks.proofs.Newly.{is_new, new-no}

-- ---- rows once marked

marked-stays : (n j : ℕ) (l w : List ℕ) (p : ℕ) → get_or w p 0 ≡ j → get_or (marked n j l w) p 0 ≡ j
marked-stays n j l w p e = go (marked-cases n j l w p)
  where
    go : (get_or (marked n j l w) p 0 ≡ get_or w p 0) ⊎ ((get_or (marked n j l w) p 0 ≡ j) × ((i : ℕ) × ((i ∈ l) × (p ≡ n + n + i))))
        → get_or (marked n j l w) p 0 ≡ j
    go (inl q) = q ∙ e
    go (inr q) = q.0

marked_all : (n j : ℕ) (l w : List ℕ) (i : ℕ) → Markable n l w → i ∈ l → get_or (marked n j l w) (n + n + i) 0 ≡ j
unfolding marked
marked_all n j [] w i k m = absurd (Memᴰ.not-nil m)
marked_all n j (r ∷ rs) w i k m = go (Memᴰ.cases_cons m) (λ t. marked_all n j rs (set w (n + n + r) j) i rest t)
  where
    rest : Markable n rs (set w (n + n + r) j)
    rest = record { most = λ x t. k.most x (Memᴰ.tail t); long = rw length-set k.long }

    go : (i ≡ r) ⊎ (i ∈ rs) → (i ∈ rs → get_or (marked n j rs (set w (n + n + r) j)) (n + n + i) 0 ≡ j)
        → get_or (marked n j rs (set w (n + n + r) j)) (n + n + i) 0 ≡ j
    go (inl e) ih =
        rw e (marked-stays n j rs (set w (n + n + r) j) (n + n + r)
        (get_or-set_same w (n + n + r) j 0 (omega (arith, k.most r (Memᴰ.head refl), k.long))))
    go (inr t) ih = ih t

-- ---- more rows

-- no row is marked for a column, if every mark is of an earlier one
pub marked-none : (n j : ℕ) (w : List ℕ) → ((i : ℕ) → 1 ≤ i → get_or w (n + n + i) 0 < j) → MarkedAre n j w []
marked-none n j w h = record { sound = λ i l e. absurd (omega (arith, h i l)); all = λ i m. absurd (Memᴰ.not-nil m) }

module _ {n j : ℕ} {w acc : List ℕ} (are : MarkedAre n j w acc) (more : List ℕ) where
  pub marked_more : Markable n more w → MarkedAre n j (marked n j more w) (merge acc more)
  marked_more k =
      record {
        sound = marks-sound n j more w acc (merge acc more) are.sound (λ i m. merge-left acc more m) (λ i m. merge-right acc more m);
        all = λ i m. ⊎_elim (λ (t : i ∈ acc). marked-stays n j more w (n + n + i) (are.all i t)) (λ (t : i ∈ more). marked_all n j more w i k t)
            (merge-from acc more m);
      }

  pub marked-count : Asc j acc → Asc j more → length (merge acc more) ≡ length acc + length (new_rows n j w more)
  marked-count a b =
      same_length (merge acc more) (acc ++ new_rows n j w more)
      (asc-distinct j (merge acc more) (merge-asc j acc more a b))
      (distinct-join acc (new_rows n j w more) (asc-distinct j acc a) (keep-distinct (is_new n j w) more (asc-distinct j more b)) apart)
      (λ i m. there i (merge-from acc more m))
      (λ i m. back i (Memᴰ.append_cases acc m))
      ∙ length-append acc (new_rows n j w more)
    where
      apart : (i : ℕ) → i ∈ acc → i ∈ new_rows n j w more → ⊥
      apart i m t = true-false (keep-from (is_new n j w) more t).1 (new-no n j w i (are.all i m))

      old-or : (i : ℕ) → i ∈ more → Test (is_new n j w i) → i ∈ (acc ++ new_rows n j w more)
      old-or i m (passes e) = Memᴰ.append_right acc (keep-into (is_new n j w) more m e)
      old-or i m (fails e) =
          Memᴰ.append_left (new_rows n j w more) (are.sound i (omega (arith, asc-above j more b m))
          (eqb-true (get_or w (n + n + i) 0) j (not-false (is_marked n j w i) e)))

      there : (i : ℕ) → (i ∈ acc) ⊎ (i ∈ more) → i ∈ (acc ++ new_rows n j w more)
      there i (inl m) = Memᴰ.append_left (new_rows n j w more) m
      there i (inr m) = old-or i m (test (is_new n j w i))

      back : (i : ℕ) → (i ∈ acc) ⊎ (i ∈ new_rows n j w more) → i ∈ merge acc more
      back i (inl m) = merge-left acc more m
      back i (inr m) = merge-right acc more (keep-from (is_new n j w) more m).0
