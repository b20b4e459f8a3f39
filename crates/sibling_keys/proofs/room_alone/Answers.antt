-- Proves that `room_alone` finds W: it keeps the room of the first i children, the sum of their updates, and the sum of all these but the last.
-- Assumes nothing.
use Rattle.std.proofs.Common.{◌+◌, ◌<◌, arith, length, get_or}
use Rattle.room.proofs.Entries.{entries_fit}
use Rattle.sibling_keys.proofs.Turns.{turned-start, turned-column, turned-known, turned-light, turned_turn}
use Rattle.sibling_keys.proofs.room_alone.Goals as goal
use Rattle.sibling_keys.proofs.room_alone.Goals.{In-loop-kid}

-- work holds the W of the child
known : (c : In-loop-kid) → get_or c.args.kids.now c.loop-kid.kid-index 0 < length c.args.rooms.now
known c = turned-known _ _ _ c.args.j c.loop-kid.invariant c.requires c.loop-kid-test.true

pub loop-kid-init : goal.loop-kid-init
loop-kid-init c = turned-start _ _ _ c.args.j

pub bounds-rooms-c : goal.bounds-rooms-c
bounds-rooms-c c = known (goal.at.bounds-rooms-c c).In-loop-kid

pub overflow_add-below : goal.overflow_add-below
overflow_add-below c =
    let h = turned-light _ _ _ c.args.j c.loop-kid.invariant c.requires c.loop-kid-test.true in
    omega arith

pub rows_of-requires : goal.rows_of-requires
rows_of-requires c =
    turned-column _ _ _ c.args.j c.loop-kid.invariant c.requires c.loop-kid-test.true

pub overflow_add-below-in-loop-kid : goal.overflow_add-below-in-loop-kid
overflow_add-below-in-loop-kid c = omega (arith, c.entries-below.ensures, entries_fit c.rows_of.result (omega (arith, c.rows_of.ensures.few)))

pub loop-kid-preserved : goal.loop-kid-preserved
loop-kid-preserved c =
    turned_turn _ _ _ c.args.j c.loop-kid.invariant c.requires c.loop-kid-test.true
    c.max-most.ensures c.rows_of.ensures c.entries-below.ensures

pub overflow_add-before : goal.overflow_add-before
overflow_add-before c =
    omega (arith, c.entries.ensures, entries_fit (c.rows_of-2.result + 1) (omega (arith, c.rows_of-2.ensures.few)))
