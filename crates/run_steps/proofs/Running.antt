-- Proves the steps of the loop: after `done` steps without a fault the stack list and the record hold the state. A step's effect depends neither on
-- the room nor on what the stack slice held at first.
-- Assumes nothing.
use Prim.Native.Nat.{ℕ, suc, ◌+◌, ◌<◌, ◌≤◌}
use mathlib.Core.Path.{◌≡◌, refl, ap, ◌∙◌, sym}
use mathlib.Core.Logic.{◌≢◌}
use mathlib.Core.List.{List, []}
use native.Mathlib.Omega.{arith}
use native.Mathlib.Numerals.{add-one}
use lib.ListN.{length}
use Rattle.papers.specs.Lists.{least}
use Rattle.papers.specs.Refusals.{answer}
use Rattle.papers.specs.Run.{RunCall, State, rows_in_factor, pops_at, entries, room_in_state, fits, fault_of_step, pushed, stepped, state_after, fault_at}
use Rattle.job_laws.proofs.Faults.{faulty, faults-next}
use Rattle.run_held.specs.declared.Held.{Held}
use Rattle.run_updates.specs.Kept.{state_of, run_of, Kept}
use Rattle.run_updates.proofs.Stack.{held_none, held-length}
use Rattle.run_updates.proofs.Entries.{total-none}
use Rattle.run_faults.proofs.Faults.{fault-zero}
use Rattle.run_step.specs.Ready.{Ready, StepTaken}
use Rattle.run_steps.specs.Steps.{StepsGiven, answer_of_steps}
use Rattle.run_steps.proofs.Answers.{answer-fault, answer-left, answer-done}

-- the state after so many steps, and the fault of the next
module _ (call : RunCall) where
  pub state-first : state_after call 0 ≡ record { held = []; greatest = 0 }
  unfolding state_after
  state-first = refl

  state-next : (s : ℕ) → state_after call (suc s) ≡ stepped call (suc s) (state_after call s)
  unfolding state_after
  state-next s = refl

  fault-next : (s : ℕ) → fault_at call (suc s) ≡ fault_of_step call (suc s) (state_after call s)
  unfolding fault_at
  fault-next s = ap (λ k. fault_of_step call (suc s) (state_after call k)) (omega arith)

module _ (n : ℕ) (starts rows columns pops : List ℕ) (room : ℕ) (stack : List ℕ) where
  abbrev call : RunCall
  call = run_of n starts rows columns pops room stack

  fault-apart : (s : ℕ) (state : State) → fault_of_step (run_of n starts rows columns pops room []) s state ≡ fault_of_step call s state
  unfolding fault_of_step fits rows_in_factor pops_at room_in_state entries
  fault-apart s state = refl

  step-apart : (s : ℕ) (state : State) → stepped (run_of n starts rows columns pops 0 []) s state ≡ stepped call s state
  unfolding stepped pushed rows_in_factor pops_at room_in_state entries
  step-apart s state = refl

  -- `now` is what the stack slice holds after `done` steps without a fault
  pub record Running (now : List ℕ) (held : Held) (done : ℕ) : Type 0 where
    pub kept : Kept n starts rows now held
    pub few : held.count ≤ done
    pub within : done ≤ n
    pub long : length now ≡ length stack
    pub state : state_of held now ≡ state_after call done
    pub fine : least (faulty (fault_at call)) done ≡ 0

  -- at first nothing is held
  pub running-start : n ≤ length stack → Running stack (record { count = 0; entries = 0; greatest = 0 }) 0
  unfolding least
  running-start long = record {
    kept = record {
      few = omega arith;
      listed = long;
      columns = λ i l. absurd (omega arith);
      entries-are = rw (held_none stack) (sym (total-none n starts rows));
    };
    few = omega arith;
    within = omega arith;
    long = refl;
    state = rw (held_none stack) (sym (state-first call));
    fine = refl;
  }

  module _ {now : List ℕ} {held : Held} {done : ℕ} (run : Running now held done) (more : done < n) {fault : ℕ}
      (f : fault ≡ fault_of_step (run_of n starts rows columns pops room []) (suc done) (state_of held now)) where
    -- the fault found is the step's
    pub fault-is : fault_at call (suc done) ≡ fault
    fault-is = fault-next call done ∙ (rw (← run.state) (sym (f ∙ fault-apart (suc done) (state_of held now))))

    -- a step without a fault can be taken
    pub ready : StepsGiven n starts rows columns pops stack → fault ≡ 0 → Ready n starts rows columns pops now held done
    ready asked z =
        let fine = fault-zero n starts rows columns pops room now held done (sym f ∙ z) in
        let few = run.few in
        record {
          tested = asked.tested;
          kept = run.kept;
          column-listed = omega (arith, asked.columns-long);
          pops-listed = omega (arith, asked.pops-long);
          column = fine.column;
          enough = fine.enough;
          free = omega arith;
        }

    -- then one more step is done
    pub running-next : {now' : List ℕ} {held' : Held} → fault ≡ 0 → length now' ≡ length now
        → StepTaken n starts rows columns pops now held done now' held' → Running now' held' (done + 1)
    running-next z same taken =
        let few = run.few in
        rw add-one
        (record {
          kept = taken.kept;
          few = omega (arith, taken.grows);
          within = omega arith;
          long = same ∙ run.long;
          state = taken.state ∙ step-apart (suc done) (state_of held now) ∙ (rw run.state (sym (state-next call done)));
          fine = faults-next (fault_at call) done run.fine (fault-is ∙ z);
        })

    -- a fault is answered
    pub answers-fault : fault ≢ 0 → answer fault (done + 1) held.greatest ≡ answer_of_steps call
    answers-fault h = answer-fault call run.fine more fault-is h (ap (λ (s : State). s.greatest) run.state)

  -- all steps are done
  module _ {now : List ℕ} {held : Held} {done : ℕ} (run : Running now held done) (end : n ≤ done) where
    all_done : done ≡ n
    all_done = let w = run.within in omega arith

    none-at-fault : least (faulty (fault_at call)) n ≡ 0
    none-at-fault = rw all_done at run.fine

    last : state_of held now ≡ state_after call n
    last = rw all_done at run.state

    held-last : held.count ≡ length (state_after call n).held
    held-last = sym (held-length now held.count) ∙ ap (λ (s : State). length s.held) last

    pub answers-left : held.count ≢ 0 → answer 24 n held.greatest ≡ answer_of_steps call
    answers-left h = answer-left call none-at-fault (ap (λ (s : State). s.greatest) last) (omega (arith, held-last))

    pub answers-done : held.count ≡ 0 → answer 0 0 held.greatest ≡ answer_of_steps call
    answers-done h = answer-done call none-at-fault (ap (λ (s : State). s.greatest) last) (omega (arith, held-last))
