-- Proves that `room_in_use` computes the room: the record keeps the sum of the entries held, and the top update is one of them, so no difference
-- falls below 0.
-- Assumes nothing.
use Prim.Native.Nat.{◌+◌, ◌^◌, ◌<◌}
use native.Mathlib.Omega.{arith}
use Rattle.run_updates.proofs.Uses.{top_within, front_fits, room_fits, room-above, room-on-top}
use Rattle.run_updates.proofs.room_in_use.Goals as goal
use Rattle.run_updates.proofs.room_in_use.Goals.{After-entries-front}

-- the entries held and those of the front together fit 64 bits
fits : (c : After-entries-front) → c.args.held.entries + c.entries-front.result < 2 ^ 63
fits c = room_fits c.requires c.rows_of.ensures c.entries-front.ensures

pub entries-front-requires : goal.entries-front-requires
entries-front-requires c = front_fits c.requires c.rows_of.ensures

pub overflow_add-result : goal.overflow_add-result
overflow_add-result c = omega (arith, fits (goal.at.overflow_add-result c).After-entries-front)

pub returns-then-pops-eq0 : goal.returns-then-pops-eq0
returns-then-pops-eq0 c =
    room-above c.requires c.rows_of.ensures c.entries-front.ensures
    c.if-pops-eq0.true

pub overflow_sub-result : goal.overflow_sub-result
overflow_sub-result c =
    top_within c.requires (omega arith) c.from.ensures c.entries_of-top.ensures

pub overflow_add-result-2 : goal.overflow_add-result-2
overflow_add-result-2 c = omega (arith, fits (goal.at.overflow_add-result-2 c).After-entries-front)

pub returns : goal.returns
returns c =
    room-on-top c.requires c.rows_of.ensures c.entries-front.ensures
    (omega arith) c.from.ensures c.entries_of-top.ensures
