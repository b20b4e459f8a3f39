-- Proves that reading a plan is refused exactly as the conditions of 12 to 15 say. It reads steps, lists and the peak number by number, and
-- each number is the field that follows.
-- Assumes nothing.
use Prim.Native.Nat.{ℕ, zero, suc, ◌+◌, ◌<◌, ◌≤◌}
use mathlib.Core.Path.{◌≡◌, refl, subst}
use mathlib.Core.Logic.{◌↔◌, ◌⊎◌, inl, inr, ◌≢◌}
use mathlib.Core.List.{List, [], ◌∷◌}
use native.Mathlib.Omega.{arith}
use lib.ListN.{length}
use borrow.Author.Tests.{lt-ltb, le-ltb}
use Rattle.papers.specs.Bounds.{max_peak}
use Rattle.papers.specs.Refusals.{answer}
use Rattle.papers.specs.Numbers.{Read, got, bad, then, onto, field, at_end}
use Rattle.papers.specs.Key.{rows_read_from, list_read_from, lists_read_from}
use Rattle.papers.specs.Plan.{Plan, step_read_from, steps_read_from, plan_read_from, Field, column, pops, count, gap, declared, nothing}
use Rattle.papers.specs.Plan.{range, next_list, next_row_of, next_step, following, PlanFault}
use Rattle.list_laws.proofs.Tests.{below_or}
use Rattle.bytes_laws.proofs.Fields.{got-inj, got-bad, then-only}
use Rattle.bytes_laws.proofs.Reaches.{rows-reach}
use Rattle.bytes_laws.proofs.Plans.{end-got, end-only}
use Rattle.check_laws.proofs.OneField.{bad-inj}
use Rattle.check_laws.proofs.Fields.{number_at, Leads, stay, on, leads-on, at-number, behind, Fails, fails-one, fails-no-end, fails-iff}

-- a number comes next
abbrev Some : Field → Type 0
Some (column left) = Unit {0}
Some (pops left) = Unit {0}
Some (count counts) = Unit {0}
Some (gap counts row left) = Unit {0}
Some declared = Unit {0}
Some nothing = ⊥

-- the field behind the lists of some columns, and behind the last list
next-list : (n : ℕ) (counts : List ℕ) → length counts < n → next_list n counts ≡ count counts
unfolding next_list
next-list n counts h = rw (lt-ltb (length counts) n h, next_list)

last-list : (n : ℕ) (counts : List ℕ) → n ≤ length counts → next_list n counts ≡ declared
unfolding next_list
last-list n counts h = rw (le-ltb (length counts) n h, next_list)

module _ (n : ℕ) (s : List ℕ) where
  -- reading from field x at `at` on goes from field to field, up to the one that belongs to what was read, or fails on the way
  data Follows {A : Type 0} (x : Field) (at : ℕ) (z : A → Field) : Read A → Type 0 where
    through : {a : A} {to : ℕ} → Leads n s (z a) to x at → Follows x at z (got a to)
    fails : {number place : ℕ} → Fails n s x at number place → Follows x at z (bad number place)

  behind-field : {A : Type 0} {x y : Field} {z : A → Field} {at to : ℕ} {r : Read A} → Leads n s y to x at → Follows y to z r → Follows x at z r
  behind-field l (through m) = through (leads-on n s l m)
  behind-field l (fails (z, end, m, h)) = fails (z, end, leads-on n s l m, h)

  then-follows : {A B : Type 0} {x : Field} {y : A → Field} {z : B → Field} {at : ℕ} {r : Read A} (next : A → ℕ → Read B) → Follows x at y r
      → ((a : A) (to : ℕ) → Follows (y a) to z (next a to))
      → Follows x at z (then r next)
  unfolding then
  then-follows next (through {a = a} {to = to} l) f = behind-field l (f a to)
  then-follows next (fails h) f = fails h

  onto-follows : {A : Type 0} {x z : Field} {at : ℕ} {r : Read (List A)} (xs : List A) → Follows x at (λ ys. z) r → Follows x at (λ ys. z) (onto xs r)
  unfolding onto
  onto-follows xs (through l) = through l
  onto-follows xs (fails h) = fails h

  -- the last field may be named otherwise
  ends_same : {A : Type 0} {x : Field} {at : ℕ} {y z : A → Field} (r : Read A) → ((a : A) (to : ℕ) → r ≡ got a to → y a ≡ z a) → Follows x at y r
      → Follows x at z r
  ends_same (got a to) same (through l) = through (rw (same a to refl) at l)
  ends_same (bad number place) same (fails h) = fails h

  field-follows : {A : Type 0} (x : Field) {z : A → Field} (at : ℕ) (next : ℕ → ℕ → Read A) → Some x
      → ((v to : ℕ) → Follows (following n x v) to z (next v to))
      → Follows x at z (then (number_at n s x at) next)
  unfolding then
  field-follows {A} x {z} at next h f = go (number_at n s x at) refl
    where
      number : x ≢ nothing
      number e = subst Some e h

      go : (r : Read ℕ) → number_at n s x at ≡ r → Follows x at z (then r next)
      go (got v to) e = behind-field (on number e stay) (f v to)
      go (bad number' place) e = fails (x, at, stay, at-number number e)

  -- ---- the parts of a plan

  step_follows : (left at : ℕ) → Follows (column left) at (λ step. next_step n left) (step_read_from n s at)
  unfolding step_read_from range following
  step_follows left at = field-follows (column left) at _ tt (λ c to. field-follows (pops left) to _ tt (λ p end. through stay))

  steps-follow : (left at : ℕ) → Follows (next_step n left) at (λ steps. next_list n []) (steps_read_from n left s at)
  unfolding steps_read_from next_step
  steps-follow zero at = through stay
  steps-follow (suc left) at = then-follows _ (step_follows left at) (λ x to. onto-follows (x ∷ []) (steps-follow left to))

  rows-follow : (counts : List ℕ) (row left at : ℕ) → Follows (next_row_of n counts row left) at (λ rows. next_list n counts) (rows_read_from n row left s at)
  unfolding rows_read_from next_row_of range following
  rows-follow counts row zero at = through stay
  rows-follow counts row (suc left) at =
      field-follows (gap counts row left) at _ tt (λ v to. onto-follows ((row + v) ∷ []) (rows-follow counts (row + v) left to))

  -- a list is as long as the count before it says
  list-follows : (counts : List ℕ) (at : ℕ)
      → Follows (count counts) at (λ rows. next_list n (length rows ∷ counts)) (list_read_from n (suc (length counts)) s at)
  unfolding list_read_from range following
  list-follows counts at =
      let j = suc (length counts) in
      field-follows (count counts) at _ tt
      (λ v to. ends_same (rows_read_from n j v s to) (λ rows end e. let c = (rows-reach n s j v to rows end e).0 in rw c) (rows-follow (v ∷ counts) j v to))

  lists-follow : (counts : List ℕ) (k at : ℕ) → length counts + k ≡ n
      → Follows (next_list n counts) at (λ lists. declared) (lists_read_from n (suc (length counts)) k s at)
  unfolding lists_read_from
  lists-follow counts zero at e = rw (last-list n counts (omega arith)) (through stay)
  lists-follow counts (suc k) at e =
      rw (next-list n counts (omega arith))
      (then-follows _ (list-follows counts at) (λ l to. onto-follows (l ∷ []) (lists-follow (length l ∷ counts) k to (omega arith))))

  end-follows : {A : Type 0} (a : A) (at : ℕ) → Follows nothing at (λ x. nothing) (at_end a s at)
  unfolding at_end
  end-follows a at = go (below_or at (length s))
    where
      go : (at < length s) ⊎ (length s ≤ at) → Follows nothing at (λ x. nothing) (at_end a s at)
      go (inl h) = rw (lt-ltb at (length s) h, at_end) (fails (nothing, at, stay, behind refl h))
      go (inr h) = rw (end-got a s at h) (through stay)

  plan-follows : (at : ℕ) → Follows (next_step n n) at (λ plan. nothing) (plan_read_from n s at)
  unfolding plan_read_from range following
  plan-follows at =
      then-follows _ (steps-follow n at)
      (λ steps to. then-follows _ (lists-follow [] n to (omega arith)) (λ lists mid. field-follows declared mid _ tt (λ p end. end-follows _ end)))

  -- a plan that is read was read to the end of the bytes
  plan-end : (at : ℕ) {plan : Plan} {end : ℕ} → plan_read_from n s at ≡ got plan end → length s ≤ end
  unfolding plan_read_from
  plan-end at e =
      let (steps, to, f, t) = then-only _ (steps_read_from n n s at) e in
      let (lists, mid, g, u) = then-only _ (lists_read_from n 1 n s to) t in
      let (peak, last, h, v) = then-only _ (field 0 max_peak s mid) u in
      (end-only _ _ s last _ v).2

  -- reading is refused exactly as the conditions of 12 to 15 say
  pub plan-bad-iff : (from number place : ℕ) → (plan_read_from n s from ≡ bad number place) ↔ PlanFault n s from (answer number place 0)
  plan-bad-iff from number place =
      let i = fails-iff n s from number place in
      (λ e. i.0 (there e (plan-follows from)), λ b. back (i.1 b) (plan_read_from n s from) refl)
    where
      there : {r : Read Plan} {number place : ℕ} → r ≡ bad number place → Follows (next_step n n) from (λ plan. nothing) r
          → Fails n s (next_step n n) from number place
      there e (through l) = absurd (got-bad refl e)
      there e (fails h) = let (a, b) = bad-inj e in rw (← a, ← b) h

      ends : {r : Read Plan} {plan : Plan} {end : ℕ} → r ≡ got plan end → Follows (next_step n n) from (λ plan. nothing) r
          → Leads n s nothing end (next_step n n) from
      ends e (through l) = rw (← (got-inj e).1) l
      ends e (fails h) = absurd (got-bad e refl)

      back : Fails n s (next_step n n) from number place → (r : Read Plan) → plan_read_from n s from ≡ r → plan_read_from n s from ≡ bad number place
      back f (got plan end) e = absurd (fails-no-end n s f (ends e (plan-follows from)) (plan-end from e))
      back f (bad m p) e = let (a, b) = fails-one n s f (there e (plan-follows from)) in rw (a, b) e
