-- Proves the answer for each way out of the loop over the steps: the first step at fault, updates left, or done. Each way leaves the stack slice
-- zero.
-- Assumes nothing.
use Prim.Native.Nat.{ℕ, suc, ◌+◌, ◌-◌, ◌<◌}
use mathlib.Core.Path.{◌≡◌, refl, sym, ap, ◌∙◌}
use mathlib.Core.Logic.{◌≢◌}
use mathlib.Core.List.{List, [], ◌∷◌}
use native.Mathlib.Omega.{arith}
use native.Mathlib.Numerals.{add-one}
use lib.Dec.{ltb}
use lib.ListN.{length}
use borrow.Author.Tests.{lt-ltb, le-ltb}
use Rattle.papers.specs.declared.Answer.{Answer}
use Rattle.papers.specs.Lists.{least, zeros}
use Rattle.papers.specs.Refusals.{answer, Verdict, passed, refused, first, Outcome, outcome}
use Rattle.papers.specs.Run.{RunCall, State, state_after, fault_at, bad_step, updates_left, run_late, run_done}
use Rattle.job_laws.proofs.Firsts.{first-none, first_passes, first-refuses, first-last, refused-if, passed-if}
use Rattle.job_laws.proofs.Faults.{faulty, faults-pass, faults-refuse}
use Rattle.job_laws.proofs.Outcomes.{outcome-late, outcome-done}
use Rattle.run_steps.specs.Steps.{answer_of_steps}

module _ (call : RunCall) where
  -- the outcome from the steps on
  abbrev pub from_steps : Outcome (List ℕ)
  from_steps = outcome [] run_late run_done zeros call call.stack

  -- its answer, if it is refused, and if it is done
  answer-late : {a : Answer} → first run_late call ≡ refused a → a ≡ answer_of_steps call
  answer-late e = sym (ap (λ (o : Outcome (List ℕ)). o.answered) (outcome-late [] run_late run_done zeros call call.stack (first-none call) e))

  answer-passed : first run_late call ≡ passed → (run_done call).answered ≡ answer_of_steps call
  answer-passed e = sym (ap (λ (o : Outcome (List ℕ)). o.answered) (outcome-done [] run_late run_done zeros call call.stack (first-none call) e))

  -- the answer for the fault of step s
  abbrev given : ℕ → ℕ → Answer
  given number s = answer number s (state_after call (s - 1)).greatest

  -- ---- the ways out

  -- the first step at fault
  pub answer-fault : {fault done greatest : ℕ} → least (faulty (fault_at call)) done ≡ 0 → done < call.n → fault_at call (suc done) ≡ fault → fault ≢ 0
      → greatest ≡ (state_after call done).greatest → answer fault (done + 1) greatest ≡ answer_of_steps call
  unfolding run_late
  answer-fault {fault} {done} {greatest} z l e h g =
      let before : state_after call done ≡ state_after call (suc done - 1) = ap (state_after call) (omega arith) in
      let refuses = faults-refuse (fault_at call) call.n given done z (omega arith) (omega (arith, e)) in
      (rw (add-one, ← e, g ∙ ap (λ (s : State). s.greatest) before)) ∙ answer-late (first-refuses bad_step _ call refuses)

  -- no step is at fault
  module _ {greatest : ℕ} (z : least (faulty (fault_at call)) call.n ≡ 0) (g : greatest ≡ (state_after call call.n).greatest) where
    rest : first run_late call ≡ updates_left.test call
    unfolding run_late
    rest =
        first_passes bad_step (updates_left ∷ []) call (faults-pass (fault_at call) call.n given z) ∙ first-last updates_left call

    -- updates are left
    pub answer-left : 0 < length (state_after call call.n).held → answer 24 call.n greatest ≡ answer_of_steps call
    answer-left h =
        let refuses = refused-if (ltb 0 (length (state_after call call.n).held)) (answer 24 call.n (state_after call call.n).greatest)
        (lt-ltb 0 (length (state_after call call.n).held) h) in
        (rw g) ∙ answer-late (rest ∙ refuses)

    -- done
    pub answer-done : length (state_after call call.n).held ≡ 0 → answer 0 0 greatest ≡ answer_of_steps call
    unfolding run_done
    answer-done h =
        let passes = passed-if (ltb 0 (length (state_after call call.n).held)) (answer 24 call.n (state_after call call.n).greatest)
        (le-ltb 0 (length (state_after call call.n).held) (omega arith)) in
        (rw g) ∙ answer-passed (rest ∙ passes)

  -- ---- the stack slice

  -- from the steps on the slice is zero
  pub from-steps : from_steps ≡ record { answered = answer_of_steps call; lent = zeros call.stack }
  unfolding run_done
  from-steps = go (first run_late call) refl
    where
      with-lent : {p : Outcome (List ℕ)} → from_steps ≡ p → from_steps ≡ record { answered = from_steps.answered; lent = p.lent }
      with-lent e = ap (λ (l : List ℕ). record { answered = from_steps.answered; lent = l }) (ap (λ (o : Outcome (List ℕ)). o.lent) e)

      go : (v : Verdict) → first run_late call ≡ v → from_steps ≡ record { answered = answer_of_steps call; lent = zeros call.stack }
      go passed e = with-lent (outcome-done [] run_late run_done zeros call call.stack (first-none call) e)
      go (refused a) e = with-lent (outcome-late [] run_late run_done zeros call call.stack (first-none call) e)
