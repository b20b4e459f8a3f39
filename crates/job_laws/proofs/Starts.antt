-- Proves the test of the starts (4): what each way out answers, and that starts pass exactly when there are n + 1 of them, from 0 up to the
-- row count, none below the one before.
-- Assumes nothing.
use Prim.Native.Nat.{ℕ, zero, suc, ◌+◌, ◌-◌, ◌≤◌}
use mathlib.Core.Path.{◌≡◌, refl, sym, ap, ◌∙◌}
use mathlib.Core.Logic.{◌↔◌, ◌≢◌}
use mathlib.Core.Bool.{false}
use mathlib.Core.List.{List, [], ◌∷◌}
use native.Mathlib.Omega.{arith}
use lib.Dec.{ltb, eqb}
use lib.ListN.{length, get_or}
use lib.Seq.{slice}
use borrow.Author.Tests.{ltb-false, le-ltb, eqb-true, eqb-false, eq-eqb, ne_eqb}
use Rattle.papers.specs.Lists.{least}
use Rattle.papers.specs.Refusals.{answer, passed, refused, refused_at, first}
use Rattle.papers.specs.Job.{start, column_of, RowLists, falls_at_place, starts_miscounted, starts_not_from_zero, starts_fall, starts_end_wrong}
use Rattle.job_laws.specs.Passed.{Starts, starts_test}
use Rattle.list_laws.specs.Parts.{part}
use Rattle.list_laws.proofs.Tests.{Test, passes, fails, test}
use Rattle.list_laws.proofs.Leasts.{least-zero-iff}
use Rattle.list_laws.proofs.Parts.{part_slice}
use Rattle.job_laws.proofs.Firsts.{refused-passed, first_passes, first-refuses, first-last, refused-if, passed-if}

-- start j + 1 is the number at place j, counted from 0
pub start-at : (starts : List ℕ) (j : ℕ) → start starts (suc j) ≡ get_or starts j 0
unfolding start
start-at starts j = let e : suc j - 1 ≡ j = omega arith in rw e

-- the rows of column j + 1 are those from the number at place j to the next one
pub column-at : (starts rows : List ℕ) (j : ℕ) → column_of starts rows (suc j) ≡ slice (get_or starts j 0) (get_or starts (suc j) 0) rows
unfolding column_of
column-at starts rows j = rw (start-at starts j, start-at starts (suc j))

-- and those of column j are the part between its start and the one behind it
pub column-slice : (starts rows : List ℕ) (j : ℕ) → column_of starts rows j ≡ slice (get_or starts (j - 1) 0) (get_or starts j 0) rows
unfolding column_of start
column-slice starts rows j = ap (λ e. slice (get_or starts (j - 1) 0) e rows) (start-at starts j)

pub part-column : (starts rows : List ℕ) (j : ℕ) → part (get_or starts (j - 1) 0) (get_or starts j 0) rows ≡ column_of starts rows j
part-column starts rows j = part_slice (get_or starts (j - 1) 0) (get_or starts j 0) rows ∙ sym (column-slice starts rows j)

pub falls_at : (starts : List ℕ) (j : ℕ) → falls_at_place starts (suc j) ≡ ltb (get_or starts (suc j) 0) (get_or starts j 0)
unfolding falls_at_place
falls_at starts j = rw (start-at starts j, start-at starts (suc j))

-- column j's start does not fall exactly when the next start is no less
pub falls-false-iff : (starts : List ℕ) (j : ℕ) → (falls_at_place starts j ≡ false) ↔ (start starts j ≤ start starts (suc j))
unfolding falls_at_place
falls-false-iff starts j = (ltb-false (start starts (suc j)) (start starts j), le-ltb (start starts (suc j)) (start starts j))

-- ---- the ways out of the test

module _ (n : ℕ) (starts rows : List ℕ) where
  abbrev lists : RowLists
  lists = record { n = n; starts = starts; rows = rows }

  -- way out: there are not n + 1 starts
  pub starts-few : length starts ≢ n + 1 → starts_test n starts rows ≡ refused (answer 4 0 0)
  starts-few h = first-refuses starts_miscounted _ lists (refused-if _ _ (rw (ne_eqb (length starts) (n + 1) h)))

  module _ (long : length starts ≡ n + 1) where
    to-first : starts_test n starts rows ≡ first (starts_not_from_zero ∷ starts_fall ∷ starts_end_wrong ∷ []) lists
    to-first = first_passes starts_miscounted _ lists (passed-if _ _ (rw (eq-eqb (length starts) (n + 1) long)))

    -- way out: the first start is not 0
    pub starts_from : start starts 1 ≢ 0 → starts_test n starts rows ≡ refused (answer 4 0 0)
    starts_from h = to-first ∙ first-refuses starts_not_from_zero _ lists (refused-if _ _ (rw (ne_eqb (start starts 1) 0 h)))

    module _ (from_zero : start starts 1 ≡ 0) where
      to-falls : starts_test n starts rows ≡ first (starts_fall ∷ starts_end_wrong ∷ []) lists
      to-falls = to-first ∙ first_passes starts_not_from_zero _ lists (passed-if _ _ (rw (eq-eqb (start starts 1) 0 from_zero)))

      -- way out: a start falls, and the place is its column
      pub starts-fall : (j : ℕ) → least (falls_at_place starts) n ≡ suc j → starts_test n starts rows ≡ refused (answer 4 (suc j) 0)
      unfolding refused_at
      starts-fall j h = to-falls ∙ first-refuses starts_fall _ lists (rw h)

      to_last : least (falls_at_place starts) n ≡ 0 → starts_test n starts rows ≡ starts_end_wrong.test lists
      unfolding refused_at
      to_last z = to-falls ∙ first_passes starts_fall _ lists (rw z) ∙ first-last starts_end_wrong lists

      -- way out: the last start is not the row count
      pub starts-end : least (falls_at_place starts) n ≡ 0 → start starts (suc n) ≢ length rows → starts_test n starts rows ≡ refused (answer 4 n 0)
      starts-end z h = to_last z ∙ refused-if _ _ (rw (ne_eqb (start starts (suc n)) (length rows) h))

      pub starts-pass : least (falls_at_place starts) n ≡ 0 → start starts (suc n) ≡ length rows → starts_test n starts rows ≡ passed
      starts-pass z h = to_last z ∙ passed-if _ _ (rw (eq-eqb (start starts (suc n)) (length rows) h))

  -- the verdict on the starts: 4 at some place, or they are right
  pub data StartsVerdict : Type 0 where
    four : (place : ℕ) → starts_test n starts rows ≡ refused (answer 4 place 0) → StartsVerdict
    fine : starts_test n starts rows ≡ passed → Starts n starts rows → StartsVerdict

  pub starts-verdict : StartsVerdict
  starts-verdict =
      go (test (eqb (length starts) (n + 1))) (test (eqb (start starts 1) 0)) (least (falls_at_place starts) n) refl
      (test (eqb (start starts (suc n)) (length rows)))
    where
      go : Test (eqb (length starts) (n + 1)) → Test (eqb (start starts 1) 0) → (p : ℕ) → least (falls_at_place starts) n ≡ p
          → Test (eqb (start starts (suc n)) (length rows))
          → StartsVerdict
      go (fails a) b p z d = four 0 (starts-few (eqb-false (length starts) (n + 1) a))
      go (passes a) (fails b) p z d = four 0 (starts_from (eqb-true (length starts) (n + 1) a) (eqb-false (start starts 1) 0 b))
      go (passes a) (passes b) (suc j) z d = four (suc j) (starts-fall (eqb-true (length starts) (n + 1) a) (eqb-true (start starts 1) 0 b) j z)
      go (passes a) (passes b) zero z (fails d) =
          four n (starts-end (eqb-true (length starts) (n + 1) a) (eqb-true (start starts 1) 0 b) z (eqb-false (start starts (suc n)) (length rows)
          d))
      go (passes a) (passes b) zero z (passes d) =
          let long = eqb-true (length starts) (n + 1) a in
          let from_zero = eqb-true (start starts 1) 0 b in
          let last = eqb-true (start starts (suc n)) (length rows) d in
          fine (starts-pass long from_zero z last)
          (record {
            long = long;
            from_zero = from_zero;
            rising = λ j l h. (falls-false-iff starts j).0 ((least-zero-iff (falls_at_place starts) n).0 z j l h);
            last = last;
          })

  -- starts pass exactly when there are n + 1 of them, from 0 up to the row count
  pub starts-iff : (starts_test n starts rows ≡ passed) ↔ Starts n starts rows
  starts-iff = (λ p. there p starts-verdict, back)
    where
      there : starts_test n starts rows ≡ passed → StartsVerdict → Starts n starts rows
      there p (four place e) = absurd (refused-passed e p)
      there p (fine e s) = s

      back : Starts n starts rows → starts_test n starts rows ≡ passed
      back s =
          starts-pass s.long s.from_zero ((least-zero-iff (falls_at_place starts) n).1 (λ j l h. (falls-false-iff starts j).1 (s.rising j l h))) s.last

-- ---- where the rows of a column are

module _ {n : ℕ} {starts rows : List ℕ} (s : Starts n starts rows) where
  rise : (j d : ℕ) → 1 ≤ j → j + d ≤ suc n → start starts j ≤ start starts (j + d)
  rise j zero l h = let e : j + 0 ≡ j = omega arith in rw e (omega arith)
  rise j (suc d) l h =
      let q = rise j d l (omega arith) in
      let r = s.rising (j + d) (omega arith) (omega arith) in
      let e : j + suc d ≡ suc (j + d) = omega arith in
      rw e (omega arith)

  -- no start is greater than the number of rows
  pub start-within : (j : ℕ) → 1 ≤ j → j ≤ suc n → start starts j ≤ length rows
  start-within j l h =
      let q = rise j (suc n - j) l (omega arith) in
      let e : j + (suc n - j) ≡ suc n = omega arith in
      let t = s.last in
      omega (arith, rw e at q)
