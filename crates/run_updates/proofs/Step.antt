-- Proves that the column and pops in the lists give the pops and the room in use of the step after `done` steps; neither depends on the room given.
-- Assumes nothing.
use Prim.Native.Nat.{ℕ, suc}
use mathlib.Core.Path.{◌≡◌, ap}
use mathlib.Core.List.{List, []}
use native.Mathlib.Omega.{arith}
use lib.ListN.{length, get_or}
use Rattle.papers.specs.Job.{column_of}
use Rattle.papers.specs.Room.{room_at}
use Rattle.papers.specs.Run.{RunCall, entries, rows_in_factor, pops_at, room_in_state}
use Rattle.order_laws.proofs.Steps.{column-at}
use Rattle.run_held.specs.declared.Held.{Held}
use Rattle.run_updates.specs.Kept.{held_in_order, state_of, run_of, factor_of}

pub pops-at : (call : RunCall) (s : ℕ) → pops_at call (suc s) ≡ get_or call.pops s 0
unfolding pops_at
pops-at call s = ap (λ i. get_or call.pops i 0) (omega arith)

module _ (n : ℕ) (starts rows columns pops stack : List ℕ) (held : Held) (done : ℕ) where
  -- room in use
  abbrev pub used : ℕ
  used =
      room_at (get_or pops done 0) (length (column_of starts rows (get_or columns done 0))) (entries (factor_of n starts rows) (held_in_order held.count stack))

  pub used-is : (room : ℕ) → room_in_state (run_of n starts rows columns pops room []) (suc done) (state_of held stack) ≡ used
  unfolding room_in_state rows_in_factor entries
  used-is room = rw (pops-at (run_of n starts rows columns pops room []) done, column-at columns done)
