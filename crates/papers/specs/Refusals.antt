-- Defines what an answer is, what a refusal is, and the outcome of a call: its refusals are listed in the order tested, and the first that
-- is given decides.
-- Assumes nothing.
use Rattle.std.specs.Prelude.{ℕ, zero, suc, ◌<◌, ◌≤◌, ◌≡◌, ◌⊎◌, Bool, true, false, List, [], ◌∷◌, ltb}
use Rattle.papers.specs.Lists.{least, Least}
use Rattle.papers.specs.declared.Answer.{Answer}

-- an answer: a number, a place and a count
abbrev pub answer : ℕ → ℕ → ℕ → Answer
answer number place count = record { number = number; place = place; count = count }

-- what a test finds: nothing to refuse, or an answer that refuses
pub data Verdict : Type 0 where
  passed : Verdict
  refused : Answer → Verdict

-- the answer of a verdict; its number is 0 if nothing is refused
unfoldable pub answer_of : Verdict → Answer
answer_of passed = answer 0 0 0
answer_of (refused a) = a

-- refuses if the condition holds
unfoldable pub refused_if : Bool → Answer → Verdict
refused_if holds a = elim holds [ true ↦ refused a | false ↦ passed ]

-- refuses at this place; place 0 means that there is no fault
unfoldable pub refused_at : ℕ → ℕ → ℕ → Verdict
refused_at number zero count = passed
refused_at number (suc p) count = refused (answer number (suc p) count)

-- ---- refusals

-- a refusal of a call: the test that finds it, and the condition that gives it, which says with which answers. The laws prove that the
-- two agree.
pub record Refusal (C : Type 0) : Type 1 where
  pub test : C → Verdict
  pub gives : C → Answer → Type 0

-- a refusal with one answer: the test of what must hold, what must hold, and the answer
abbrev pub when : {C : Type 0} → (C → Bool) → (C → Type 0) → (C → Answer) → Refusal C
when test holds given = record { test = λ call. refused_if (test call) (given call); gives = λ call a. holds call × (a ≡ given call) }

-- a refusal because more is needed than given; the count is what is needed
abbrev pub exceeds : {C : Type 0} → ℕ → (C → ℕ) → (C → ℕ) → Refusal C
exceeds number needed given =
    when (λ call. ltb (given call) (needed call)) (λ call. given call < needed call) (λ call. answer number 0 (needed call))

-- a refusal at the least place, up to a bound, where something holds: the test of it, and what holds
abbrev pub at_least : {C : Type 0} → ℕ → (C → ℕ) → (C → ℕ → Bool) → (C → ℕ → Type 0) → Refusal C
at_least number bound test holds = record {
  test = λ call. refused_at number (least (test call) (bound call)) 0;
  gives = λ call a. (p : ℕ) × Least (holds call) (bound call) p × (a ≡ answer number p 0);
}

-- finds the first of 1 to a bound that is at fault; the fault of each is a number, 0 if it has none
unfoldable pub fault_test : (ℕ → ℕ) → ℕ → (ℕ → ℕ → Answer) → Verdict
fault_test fault bound given = elim (least (λ k. ltb 0 (fault k)) bound) [ zero ↦ passed | suc k ↦ refused (given (fault (suc k)) (suc k)) ]

-- a refusal at the first of 1 to a bound that is at fault: the bound, the fault of each, what its faults are, and the answer for a fault
abbrev pub first_fault_among : {C : Type 0} → (C → ℕ) → (C → ℕ → ℕ) → (C → ℕ → ℕ → Type 0) → (C → ℕ → ℕ → Answer) → Refusal C
first_fault_among bound fault Faulty given = record {
  test = λ call. fault_test (fault call) (bound call) (given call);
  gives = λ call a.
      (k number : ℕ) × ((1 ≤ k) × (k ≤ bound call)) × Faulty call k number
      × ((i m : ℕ) → 1 ≤ i → i < k → ¬ Faulty call i m) × (a ≡ given call number k);
}

-- a refusal of a part of the call
abbrev pub on : {C D : Type 0} → (C → D) → Refusal D → Refusal C
on part r = record { test = λ call. r.test (part call); gives = λ call a. r.gives (part call) a }

-- refusals of a part of the call
abbrev pub of : {C D : Type 0} → (C → D) → List (Refusal D) → List (Refusal C)
of part [] = []
of part (r ∷ rs) = on part r ∷ of part rs

-- the verdict of the first test that refuses
unfoldable pub first : {C : Type 0} → List (Refusal C) → C → Verdict
first [] call = passed
first (r ∷ rs) call = elim (r.test call) [ passed ↦ first rs call | refused a ↦ refused a ]

-- a is the answer: some condition gives it, and no condition listed before that one gives any
abbrev pub Answered : {C : Type 0} → List (Refusal C) → C → Answer → Type 0
Answered [] call a = ⊥
Answered (r ∷ rs) call a = r.gives call a ⊎ (((b : Answer) → ¬ r.gives call b) × Answered rs call a)

-- no condition gives any answer
abbrev pub Unrefused : {C : Type 0} → List (Refusal C) → C → Type 0
Unrefused [] call = Unit {0}
Unrefused (r ∷ rs) call = ((b : Answer) → ¬ r.gives call b) × Unrefused rs call

-- one refusal made of several, in the order tested
abbrev pub one_of : {C : Type 0} → List (Refusal C) → Refusal C
one_of rs = record { test = first rs; gives = Answered rs }

-- ---- the whole outcome of a call: its answer, and what its lent slices hold afterwards
pub record Outcome (S : Type 0) : Type 0 where
  pub answered : Answer
  pub lent : S

-- what an entry point promises: its answer and its lent slices at the end are those of this outcome
abbrev pub EndsAs : {S : Type 0} → Answer → S → Outcome S → Type 0
EndsAs r lent whole = record { answered = r; lent = lent } ≡ whole

-- the outcome of a call: an early refusal leaves the lent slices as they were, a late one leaves them zero; if there is none, the call is
-- done
unfoldable pub outcome : {C S : Type 0} → List (Refusal C) → List (Refusal C) → (C → Outcome S) → (S → S) → C → S → Outcome S
outcome early late done zeroing call lent =
    elim (first early call) [
      | refused a ↦ record { answered = a; lent = lent }
      | passed ↦ elim (first late call) [ refused a ↦ record { answered = a; lent = zeroing lent } | passed ↦ done call ]
    ]
