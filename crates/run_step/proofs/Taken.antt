-- Proves that taking a step keeps the state: the popped columns leave the stack and their entries leave the sum; a column with rows is stored behind
-- those that stay, and a root pushes nothing. So the list and the record hold the next state.
-- Assumes nothing.
use Prim.Native.Nat.{ℕ, suc, ◌+◌, ◌-◌, ◌<◌, ◌≤◌, min}
use mathlib.Core.Path.{◌≡◌, ap, ◌∙◌, sym}
use mathlib.Core.Logic.{◌≢◌}
use mathlib.Core.List.{List, [], ◌∷◌}
use native.Mathlib.Omega.{arith}
use lib.ListN.{length, get_or, set, take, drop, length-set}
use lib.Seq.{get_or-set_same, get_or-set_other}
use Rattle.papers.specs.Job.{column_of}
use Rattle.papers.specs.Tree.{t}
use Rattle.papers.specs.Run.{RunCall, State, rows_in_factor, pushed, stepped}
use Rattle.list_laws.proofs.Tests.{Compare, below, level, above, compare}
use Rattle.order_laws.proofs.Steps.{column-at}
use Rattle.run_held.specs.declared.Held.{Held}
use Rattle.run_held.specs.Record.{stepped_of, Takes}
use Rattle.run_front.specs.Column.{Column}
use Rattle.run_updates.specs.Kept.{held_in_order, state_of, run_of, Kept}
use Rattle.run_updates.proofs.Stack.{held-drop, held-push}
use Rattle.run_updates.proofs.Entries.{total, total-cons, total-parts, total-small, update-small}
use Rattle.run_updates.proofs.Step.{pops-at, used, used-is}
use Rattle.run_step.specs.Ready.{Ready, StepTaken}
use Rattle.run_step.proofs.Pushed.{push-root, push-update}

-- the last of `count` updates, at most n, is at a place of the stack list
pub record Place (n : ℕ) (stack : List ℕ) (count : ℕ) : Type 0 where
  pub some : 1 ≤ count
  pub few : count ≤ n
  pub there : count - 1 < length stack

module _ {n : ℕ} {starts rows columns pops stack : List ℕ} {held : Held} {done : ℕ} (step : Ready n starts rows columns pops stack held done)
    {popped update room : ℕ}
    (p : popped ≡ total n starts rows (take (get_or pops done 0) (held_in_order held.count stack)))
    (u : update ≡ t (length (column_of starts rows (get_or columns done 0))))
    (r : room ≡ used n starts rows columns pops stack held done) where
  abbrev c : ℕ
  c = get_or columns done 0

  abbrev off : ℕ
  off = get_or pops done 0

  -- the columns that stay
  abbrev staying : List ℕ
  staying = held_in_order (held.count - off) stack

  dropped : drop off (held_in_order held.count stack) ≡ staying
  dropped = held-drop stack off held.count step.enough

  entries-stay : total n starts rows staying + popped ≡ held.entries
  entries-stay =
      omega (arith, p, step.kept.entries-are, total-parts n starts rows off (held_in_order held.count stack), ap (total n starts rows) dropped)

  -- the record can take the step
  pub takes : Takes held off popped update
  unfolding t
  takes =
      let few = step.free in
      let all = step.tested.few in
      record {
        enough = step.enough;
        entries-enough = omega (arith, entries-stay);
        few = omega arith;
        entries-few = omega (
          arith,
          u,
          step.kept.entries-are,
          total-small n starts rows step.tested step.kept,
          update-small n starts rows step.tested step.column,
        );
      }

  module _ {next : Held} (e : next ≡ stepped_of held off popped update room) where
    counted : next.count ≡ held.count - off + min 1 update
    counted = ap (λ (h : Held). h.count) e

    added : next.entries ≡ held.entries - popped + update
    added = ap (λ (h : Held). h.entries) e

    grown : next.count ≤ held.count + 1
    grown = omega (arith, counted)

    abbrev call : RunCall
    call = run_of n starts rows columns pops 0 []

    -- the state after the step
    abbrev after : State
    after = stepped call (suc done) (state_of held stack)

    -- the columns then on the stack and the greatest room make that state
    after_is : (held' : List ℕ) → held' ≡ pushed call c staying → record { held = held'; greatest = next.greatest } ≡ after
    unfolding stepped
    after_is held' q =
        rw (pops-at call done, column-at columns done, used-is n starts rows columns pops stack held done 0, dropped, ← q, ← r)
        (ap (λ (g : ℕ). record { held = held'; greatest = g }) (ap (λ (h : Held). h.greatest) e))

    -- a root leaves the list as it is
    module _ (none : update ≡ 0) where
      same_count : next.count ≡ held.count - off
      same_count = omega (arith, counted)

      kept-root : Kept n starts rows stack next
      kept-root =
          let few = step.free in
          record {
            few = omega (arith, same_count);
            listed = step.kept.listed;
            columns = λ i l. step.kept.columns i (omega (arith, same_count));
            entries-are = rw same_count (omega (arith, added, entries-stay));
          }

      state-root : state_of next stack ≡ after
      unfolding rows_in_factor
      state-root = after_is (held_in_order next.count stack) (rw same_count (sym (push-root call c staying (sym u ∙ none))))

      pub taken-root : StepTaken n starts rows columns pops stack held done stack next
      taken-root = record { kept = kept-root; grows = grown; state = state-root }

    -- any other column is stored behind those that stay
    module _ (some : update ≢ 0) where
      one_more : next.count ≡ held.count - off + 1
      one_more = omega (arith, counted)

      place : next.count - 1 ≡ held.count - off
      place = omega (arith, counted)

      pub store-within : Place n stack next.count
      store-within =
          let free = step.free in
          let long = step.kept.listed in
          record { some = omega (arith, one_more); few = omega (arith, one_more); there = omega (arith, place) }

      stored : held_in_order next.count (set stack (next.count - 1) c) ≡ c ∷ staying
      stored = rw (place, one_more) (held-push stack (held.count - off) c (rw (← place) store-within.there))

      kept-update : Kept n starts rows (set stack (next.count - 1) c) next
      kept-update =
          record {
            few = store-within.few;
            listed = rw length-set step.kept.listed;
            columns = λ i l. each i l (compare i (next.count - 1));
            entries-are = rw stored (omega (arith, added, entries-stay, u, total-cons n starts rows c staying));
          }
        where
          each : (i : ℕ) → i < next.count → Compare i (next.count - 1) → Column n (get_or (set stack (next.count - 1) c) i 0)
          each i l (below h) = rw (get_or-set_other stack (next.count - 1) i c 0 (λ q. omega arith)) (step.kept.columns i (omega (arith, place)))
          each i l (level q) = rw (q, get_or-set_same stack (next.count - 1) c 0 store-within.there) step.column
          each i l (above h) = absurd (omega arith)

      state-update : state_of next (set stack (next.count - 1) c) ≡ after
      unfolding rows_in_factor
      state-update =
          after_is (held_in_order next.count (set stack (next.count - 1) c)) (stored ∙ sym (push-update call c staying (λ z. some (u ∙ z))))

      pub taken-update : StepTaken n starts rows columns pops stack held done (set stack (next.count - 1) c) next
      taken-update = record { kept = kept-update; grows = grown; state = state-update }
