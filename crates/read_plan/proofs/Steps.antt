-- Proves the steps of the loop over the plan's steps: the steps left, put onto those read, are all steps; those read are kept.
-- Assumes nothing.
use Prim.Native.Nat.{zero, suc, ℕ, ◌+◌, ◌-◌, ◌^◌, ◌<◌, ◌≤◌}
use mathlib.Core.List.{List, [], ◌∷◌, ◌++◌, map-append}
use mathlib.Core.Path.{◌≡◌, refl, ◌∙◌}
use native.Mathlib.Omega.{arith}
use lib.ListN.{length, length-map}
use lib.Seq.{sets}
use Rattle.papers.specs.Bounds.{max_columns}
use Rattle.papers.specs.Numbers.{field, got, bad, onto}
use Rattle.papers.specs.Plan.{columns_in, pops_in, step_read_from, steps_read_from}
use Rattle.list_laws.proofs.Stores.{sets_more}
use Rattle.bytes_laws.proofs.Fields.{then-got, then-bad}
use Rattle.bytes_laws.proofs.Reaches.{step-reach}
use Rattle.read_fields.proofs.Onto.{onto-nil, more, fails, ends, length_more}
use Rattle.read_plan.specs.Plans.{PartKept, StepKept, StepsKept}

-- ---- a column and its pops are numbers of 32 bits

pub column-narrow : {n column : ℕ} → n ≤ max_columns → column ≤ n → column < 2 ^ 32
column-narrow few h = omega arith

pub pops-narrow : {n pops : ℕ} → n ≤ max_columns → pops ≤ n - 1 → pops < 2 ^ 32
pops-narrow few h = omega arith

-- ---- a step and the steps behind it

module _ (n : ℕ) (s : List ℕ) (at : ℕ) where
  pub step-no-column : {c p : ℕ} → field 1 n s at ≡ bad c p → step_read_from n s at ≡ bad c p
  unfolding step_read_from
  step-no-column e = then-bad _ e

  module _ {column m : ℕ} (e : field 1 n s at ≡ got column m) where
    pub step-no-pops : {c p : ℕ} → field 0 (n - 1) s m ≡ bad c p → step_read_from n s at ≡ bad c p
    unfolding step_read_from
    step-no-pops f = then-got _ e ∙ then-bad _ f

    pub step-got : {pops k : ℕ} → field 0 (n - 1) s m ≡ got pops k → step_read_from n s at ≡ got (column, pops) k
    unfolding step_read_from
    step-got f = then-got _ e ∙ then-got _ f

  steps-none : (k : ℕ) → k ≡ 0 → steps_read_from n k s at ≡ got [] at
  unfolding steps_read_from
  steps-none zero z = refl
  steps-none (suc k) z = absurd (omega arith)

  steps-bad : (k : ℕ) {c p : ℕ} → 0 < k → step_read_from n s at ≡ bad c p → steps_read_from n k s at ≡ bad c p
  unfolding steps_read_from
  steps-bad zero z e = absurd (omega arith)
  steps-bad (suc k) z e = then-bad _ e

  steps_next : (k : ℕ) {x : ℕ × ℕ} {m : ℕ} → 0 < k → step_read_from n s at ≡ got x m → steps_read_from n k s at ≡ onto (x ∷ []) (steps_read_from n (k - 1) s m)
  unfolding steps_read_from
  steps_next zero z e = absurd (omega arith)
  steps_next (suc k) z e = let q : suc k - 1 ≡ k = omega arith in rw q (then-got _ e)

-- ---- steps read so far

-- the first i steps are read and kept, and the next starts at k
pub record Steps (n : ℕ) (s : List ℕ) (at : ℕ) (order₀ pops₀ order pops : List ℕ) (k i : ℕ) : Type 0 where
  pub done : List (ℕ × ℕ)
  pub whole : onto done (steps_read_from n (n - i) s k) ≡ steps_read_from n n s at
  pub count : length done ≡ i
  pub few : i ≤ n
  pub inside : k ≤ length s
  pub columns : order ≡ sets order₀ 0 (columns_in done)
  pub popped : pops ≡ sets pops₀ 0 (pops_in done)

pub steps-start : (n : ℕ) (s : List ℕ) (at : ℕ) (order pops : List ℕ) → at ≤ length s → Steps n s at order pops order pops at 0
steps-start n s at order pops h =
    let e : n - 0 ≡ n = omega arith in
    record { done = []; whole = rw e (onto-nil _); count = refl; few = omega arith; inside = h; columns = refl; popped = refl }

module _ {n at k i : ℕ} {s order₀ pops₀ order pops : List ℕ} (l : Steps n s at order₀ pops₀ order pops k i) where
  module _ (h : i < n) where
    pub steps-turn : {order' pops' : List ℕ} {m : ℕ} → PartKept (StepKept i order order' pops pops') (step_read_from n s k) m
        → Steps n s at order₀ pops₀ order' pops' m (i + 1)
    steps-turn {m = m} found =
        let d = l.done in
        let x = found.part in
        let q = l.count in
        let w : n - i - 1 ≡ n - (i + 1) = omega arith in
        record {
          done = d ++ (x ∷ []);
          whole = rw (← w) (more d (x ∷ []) _ l.whole (steps_next n s k (n - i) (omega arith) found.read));
          count = omega (arith, length_more d x);
          few = omega arith;
          inside = (step-reach n s k x m found.read).inside l.inside;
          columns = rw (map-append _ d (x ∷ [])) (sets_more (columns_in d) order₀ 0 x.0 i l.columns found.kept.column
              (omega (arith, length-map d (λ (step : ℕ × ℕ). step.0))));
          popped = rw (map-append _ d (x ∷ [])) (sets_more (pops_in d) pops₀ 0 x.1 i l.popped found.kept.popped
              (omega (arith, length-map d (λ (step : ℕ × ℕ). step.1))));
        }

    pub steps-fault : {number place : ℕ} → step_read_from n s k ≡ bad number place → steps_read_from n n s at ≡ bad number place
    steps-fault e = fails l.done l.whole (steps-bad n s k (n - i) (omega arith) e)

  pub steps-stop : n ≤ i → PartKept (StepsKept order₀ order pops₀ pops) (steps_read_from n n s at) k
  steps-stop h =
      record {
        part = l.done;
        read = ends l.done l.whole (steps-none n s k (n - i) (omega arith));
        kept = record { columns = l.columns; popped = l.popped };
      }
