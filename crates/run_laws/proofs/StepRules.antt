-- Proves that each step of a run follows the rules: these are its definition, read part by part.
-- Assumes nothing.
use Prim.Native.Nat.{ℕ, zero, suc, ◌-◌, ◌≤◌, max}
use mathlib.Core.Path.{◌≡◌, refl, ap, ◌∙◌}
use mathlib.Core.Logic.{◌≢◌}
use mathlib.Core.List.{List, [], ◌∷◌}
use native.Mathlib.Omega.{arith}
use lib.ListN.{drop}
use Rattle.papers.specs.Run.{RunCall, State, rows_in_factor, pops_at, entries, room_in_state, pushed, stepped, state_after, step_column}
use Rattle.run_laws.specs.Runs.{StepRule}

module _ (call : RunCall) where
  push-root : (c : ℕ) (held : List ℕ) → rows_in_factor call c ≡ [] → pushed call c held ≡ held
  unfolding pushed
  push-root c held e = rw (e, pushed)

  push-update : (c : ℕ) (held : List ℕ) → rows_in_factor call c ≢ [] → pushed call c held ≡ c ∷ held
  unfolding pushed
  push-update c held h = go (rows_in_factor call c) refl
    where
      go : (rs : List ℕ) → rows_in_factor call c ≡ rs → pushed call c held ≡ c ∷ held
      go [] e = absurd (h e)
      go (r ∷ rs) e = rw (e, pushed)

  -- nothing is held before the first step
  pub run-begins : state_after call 0 ≡ record { held = []; greatest = 0 }
  unfolding state_after
  run-begins = refl

  -- each step of a run follows the rules
  pub run_step : (s : ℕ) → 1 ≤ s → StepRule call s
  unfolding state_after stepped room_in_state entries
  run_step zero l = absurd (omega arith)
  run_step (suc s) l =
      let e : s ≡ suc s - 1 = omega arith in
      let before : state_after call s ≡ state_after call (suc s - 1) = ap (state_after call) e in
      let left : State → List ℕ = λ state. drop (pops_at call (suc s)) state.held in
      let c = step_column call (suc s) in
      record {
        root = λ e. push-root c (left (state_after call s)) e ∙ ap left before;
        update = λ h. push-update c (left (state_after call s)) h ∙ ap (λ state. c ∷ left state) before;
        room = refl;
        greatest = ap (λ state. max state.greatest (room_in_state call (suc s) state)) before;
      }
