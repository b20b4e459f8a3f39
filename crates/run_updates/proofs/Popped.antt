-- Proves the two loops over the popped updates, from the top down: what was found of the updates passed, with what those left give, is what all of
-- them give.
-- Assumes nothing.
use Prim.Native.Nat.{ℕ, ◌+◌, ◌-◌, ◌<◌, ◌≤◌}
use mathlib.Core.Path.{◌≡◌, ap, ◌∙◌, sym}
use mathlib.Core.Bool.{Bool, true, false}
use mathlib.Core.List.{List, [], ◌∷◌}
use native.Mathlib.Omega.{arith}
use lib.ListN.{length, get_or, take}
use Rattle.papers.specs.Lists.{member, every}
use Rattle.papers.specs.Job.{column_of}
use Rattle.papers.specs.Tree.{t}
use Rattle.papers.specs.Run.{fits, rows_in_factor}
use Rattle.list_laws.proofs.Every.{every-nil, every-yes, every-no}
use Rattle.run_updates.specs.Kept.{held_in_order, factor_of}
use Rattle.run_updates.proofs.Stack.{popped-next, popped-none}
use Rattle.run_updates.proofs.Entries.{total, total-none, total-cons}

module _ (n : ℕ) (starts rows stack : List ℕ) where
  -- the popped columns that are left
  abbrev left : ℕ → ℕ → List ℕ
  left end top = take (top - end) (held_in_order top stack)

  -- at first all p columns are left
  left-all : (p k : ℕ) → p ≤ k → left (k - p) k ≡ take p (held_in_order k stack)
  left-all p k h = let e : k - (k - p) ≡ p = omega arith in rw e

  -- ---- 22: the updates left are in the front exactly if all popped updates are

  module _ (column : ℕ) where
    -- tests whether the update of column u is in the front
    abbrev stands_in_front : ℕ → Bool
    stands_in_front u = every (λ i. member i (column ∷ column_of starts rows column)) (column_of starts rows u)

    abbrev fit : List ℕ → Bool
    fit popped = fits (factor_of n starts rows) column popped

    fit_none : fit [] ≡ true
    unfolding fits rows_in_factor
    fit_none = every-nil stands_in_front

    fit-yes : (u : ℕ) (us : List ℕ) → stands_in_front u ≡ true → fit (u ∷ us) ≡ fit us
    unfolding fits rows_in_factor
    fit-yes u us e = every-yes stands_in_front u us e

    fit-no : (u : ℕ) (us : List ℕ) → stands_in_front u ≡ false → fit (u ∷ us) ≡ false
    unfolding fits rows_in_factor
    fit-no u us e = every-no stands_in_front u us e

    pub record Looked (popped : List ℕ) (end all top : ℕ) : Type 0 where
      pub behind : end ≤ top
      pub within : top ≤ all
      pub same : fit (left end top) ≡ fit popped

    pub looked-start : (p all : ℕ) → p ≤ all → Looked (take p (held_in_order all stack)) (all - p) all all
    looked-start p all h = record { behind = omega arith; within = omega arith; same = ap fit (left-all p all h) }

    pub looked-end : {popped : List ℕ} {end all top : ℕ} → Looked popped end all top → top ≤ end → true ≡ fit popped
    looked-end {popped} {end} {all} {top} l h = sym fit_none ∙ (rw (popped-none stack end top h) at l.same)

    module _ {popped : List ℕ} {end all top : ℕ} (l : Looked popped end all top) (h : end < top) {front update : List ℕ} {u : ℕ} {r : Bool}
        (e : front ≡ column_of starts rows column) (i : u ≡ get_or stack (top - 1) 0) (f : update ≡ column_of starts rows u)
        (g : r ≡ every (λ i. member i (column ∷ front)) update) where
      told : stands_in_front (get_or stack (top - 1) 0) ≡ r
      told = rw (← e, ← i, ← f) (sym g)

      pub looked-next : r ≡ true → Looked popped end all (top - 1)
      looked-next q =
          let w = l.within in
          record {
            behind = omega arith;
            within = omega arith;
            same = sym (fit-yes (get_or stack (top - 1) 0) (left end (top - 1)) (told ∙ q))
                ∙ (rw (← popped-next stack end top h) l.same);
          }

      pub looked-outside : r ≡ false → false ≡ fit popped
      looked-outside q = sym (fit-no (get_or stack (top - 1) 0) (left end (top - 1)) (told ∙ q)) ∙ (rw (← popped-next stack end top h) l.same)

  -- ---- the entries of the popped updates

  pub record Added (popped : List ℕ) (end all top sum : ℕ) : Type 0 where
    pub behind : end ≤ top
    pub within : top ≤ all
    pub same : sum + total n starts rows (left end top) ≡ total n starts rows popped

  pub added-start : (p all : ℕ) → p ≤ all → Added (take p (held_in_order all stack)) (all - p) all all 0
  added-start p all h = record { behind = omega arith; within = omega arith; same = omega (arith, ap (total n starts rows) (left-all p all h)) }

  pub added-end : {popped : List ℕ} {end all top sum : ℕ} → Added popped end all top sum → top ≤ end → sum ≡ total n starts rows popped
  added-end {popped} {end} {all} {top} a h =
      let q = a.same in omega (arith, total-none n starts rows, ap (total n starts rows) (popped-none stack end top h))

  module _ {popped : List ℕ} {end all top sum : ℕ} (a : Added popped end all top sum) (h : end < top) {u more : ℕ}
      (i : u ≡ get_or stack (top - 1) 0) (e : more ≡ t (length (column_of starts rows u))) where
    pub added_next : Added popped end all (top - 1) (sum + more)
    added_next =
        let w = a.within in
        let q = a.same in
        record {
          behind = omega arith;
          within = omega arith;
          same = omega (
            arith,
            rw i at e,
            total-cons n starts rows (get_or stack (top - 1) 0) (left end (top - 1)),
            ap (total n starts rows) (popped-next stack end top h),
          );
        }

    -- the sum so far does not exceed the whole sum
    pub added-within : sum + more ≤ total n starts rows popped
    added-within = let q = added_next.same in omega arith
