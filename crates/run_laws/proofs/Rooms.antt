-- Proves that the rooms in use at the steps of a run over the lists R(j) of a pattern are those of its order, so no room is over the peak
-- and one equals it.
-- Assumes nothing.
use Prim.Native.Nat.{ℕ, zero, suc, ◌<◌, ◌≤◌}
use mathlib.Core.Path.{◌≡◌, refl, sym, ap, ◌∙◌}
use mathlib.Core.List.{List, [], ◌∷◌}
use native.Mathlib.Omega.{arith}
use lib.ListN.{length}
use lib.Seq.{take-length}
use Rattle.papers.specs.Job.{Pattern}
use Rattle.papers.specs.Tree.{parent, row_count}
use Rattle.papers.specs.Order.{column_at_step, pops_of, rooms_of, order_peak}
use Rattle.papers.specs.Run.{RunCall, room_in_state, state_after}
use Rattle.order_laws.specs.Stack.{held_columns}
use Rattle.order_laws.proofs.Patterns.{tree_of}
use Rattle.order_laws.proofs.Rooms.{rooms-length}
use Rattle.order_laws.proofs.Steps.{column-at, column-in, step_of}
use Rattle.order_laws.proofs.Entries.{room-at-step}
use Rattle.order_laws.proofs.Peaks.{room-under-peak, peak-reached, peak-empty}
use Rattle.order_laws.proofs.Takes.{held_none}
use Rattle.run_laws.specs.Runs.{IsStep, room_used}
use Rattle.run_laws.specs.Follows.{Follows}
use Rattle.run_laws.proofs.Factor.{columns-long}
use Rattle.run_laws.proofs.States.{held_in, room_in, greatest-in}

module _ {A : Pattern} {call : RunCall} (f : Follows A call) where
  abbrev used : List ℕ
  used = rooms_of call.n A call.columns

  long-rooms : length used ≡ call.n
  unfolding rooms_of
  long-rooms = rooms-length (row_count A) (pops_of call.n A) [] call.columns ∙ columns-long f

  room-is : (s : ℕ) → IsStep call s → column_at_step used s ≡ room_used call s
  unfolding rooms_of
  room-is zero i = absurd (omega arith)
  room-is (suc s) i =
      column-at used s
      ∙ room-at-step (row_count A) (pops_of call.n A) [] call.columns s (omega (arith, columns-long f))
      ∙ sym (ap (λ k. room_in_state call (suc s) (state_after call k)) (omega arith) ∙ room_in f s i.1)

  -- no step uses more room than the peak
  pub room_bound : (s : ℕ) → IsStep call s → room_used call s ≤ order_peak call.n A call.columns
  room_bound s i =
      rw (← room-is s i) (room-under-peak call.n A call.columns (column_at_step used s) (column-in used s i.0 (omega (arith, long-rooms))))

  -- some step uses as much
  pub room-reached : 0 < call.n → (s : ℕ) × IsStep call s × (room_used call s ≡ order_peak call.n A call.columns)
  room-reached h =
      let p = step_of used (order_peak call.n A call.columns) (peak-reached call.n A call.columns (omega (arith, columns-long f))) in
      let i : IsStep call p.step = (p.behind, omega (arith, p.within, long-rooms)) in
      (p.step, i, sym (room-is p.step i) ∙ p.is)

  -- if the peak is not 0 there is a step
  pub peak-step : 0 < order_peak call.n A call.columns → 0 < call.n
  peak-step h = go call.columns refl
    where
      go : (order : List ℕ) → call.columns ≡ order → 0 < call.n
      go [] e = absurd (omega (arith, rw e at h, peak-empty call.n A))
      go (j ∷ js) e = omega (arith, ap length e, columns-long f)

  -- the greatest room of all steps is the peak
  pub greatest-peak : (state_after call call.n).greatest ≡ order_peak call.n A call.columns
  unfolding order_peak
  greatest-peak = rw (greatest-in f call.n (omega arith), ← columns-long f, take-length call.columns)

  -- nothing is held at the end
  pub ends-empty : (state_after call call.n).held ≡ []
  ends-empty =
      held_in f call.n (omega arith)
      ∙ ap (held_columns (parent A) (pops_of call.n A) call.columns) (sym (columns-long f))
      ∙ held_none (tree_of f.below) call.columns f.ordered
