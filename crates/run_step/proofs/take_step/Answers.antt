-- Proves that `take_step` takes a step: it computes the popped entries, the step's own and the room for the record, and stores a column with rows
-- behind those that stay, which has a place.
-- Assumes nothing.
use Rattle.run_step.proofs.Taken.{takes, taken-root, taken-update}
use Rattle.run_step.proofs.take_step.Goals as goal

pub advance-next-requires : goal.advance-next-requires
advance-next-requires c =
    rw c.from-off.ensures (
    takes c.requires
    (rw c.from-off.ensures at c.popped_entries-popped.ensures)
    (rw c.from-2.ensures at c.entries_of-update.ensures)
    (rw (c.from-off.ensures, c.from.ensures) at c.room_in_use-room.ensures))

pub returns-then-update-eq0 : goal.returns-then-update-eq0
returns-then-update-eq0 c =
    taken-root c.requires
    (rw c.from-off.ensures at c.popped_entries-popped.ensures)
    (rw c.from-2.ensures at c.entries_of-update.ensures)
    (rw (c.from-off.ensures, c.from.ensures) at c.room_in_use-room.ensures)
    (rw c.from-off.ensures at c.advance-next.ensures)
    c.if-update-eq0.true

pub returns : goal.returns
returns c =
    taken-update c.requires
    (rw c.from-off.ensures at c.popped_entries-popped.ensures)
    (rw c.from-2.ensures at c.entries_of-update.ensures)
    (rw (c.from-off.ensures, c.from.ensures) at c.room_in_use-room.ensures)
    (rw c.from-off.ensures at c.advance-next.ensures)
    c.if-update-eq0.false
