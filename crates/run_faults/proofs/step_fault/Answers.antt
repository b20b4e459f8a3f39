-- Proves that `step_fault` answers the first test that refuses: it makes the papers' tests in their order, each only after those before it passed.
-- Assumes nothing.
use lib.ListN.{get_or}
use Rattle.run_front.specs.Column.{Column}
use Rattle.run_faults.proofs.Faults.{fault-low, fault-high, fault-few, fault-outside, fault-over, fault-none}
use Rattle.run_faults.proofs.step_fault.Goals as goal
use Rattle.run_faults.proofs.step_fault.Goals.{Else-factor-column}

-- the step's column is one of 1 to n
column : (c : Else-factor-column) → Column c.args.factor.n (get_or c.args.columns.now c.args.done 0)
column c =
    record {
      low = rw c.from-column.ensures at c.if-column-lt1.false;
      high = rw c.from-column.ensures at c.if-factor-column.false;
    }

pub returns-then-column-lt1 : goal.returns-then-column-lt1
returns-then-column-lt1 c = fault-low _ _ _ _ _ _ _ c.args.held _ (rw c.from-column.ensures at c.if-column-lt1.true)

pub returns-then-factor-column : goal.returns-then-factor-column
returns-then-factor-column c = fault-high _ _ _ _ _ _ _ c.args.held _ (rw c.from-column.ensures at c.if-factor-column.true)

pub returns-then-held-off : goal.returns-then-held-off
returns-then-held-off c =
    fault-few _ _ _ _ _ _ _ c.args.held _ (column (goal.at.returns-then-held-off c).Else-factor-column)
    (rw c.from-off.ensures at c.if-held-off.true)

pub returns-then-not-popped_fit : goal.returns-then-not-popped_fit
returns-then-not-popped_fit c =
    fault-outside _ _ _ _ _ _ _ c.args.held _ (column (goal.at.returns-then-not-popped_fit c).Else-factor-column)
    (rw c.from-off.ensures at c.if-held-off.false)
    (rw (c.from-column.ensures, c.from-off.ensures) at c.popped_fit.ensures)
    c.if-not-popped_fit.true

pub returns-then-room-room_in_use : goal.returns-then-room-room_in_use
returns-then-room-room_in_use c =
    fault-over _ _ _ _ _ _ _ c.args.held _ (column (goal.at.returns-then-room-room_in_use c).Else-factor-column)
    (rw c.from-off.ensures at c.if-held-off.false)
    (rw (c.from-column.ensures, c.from-off.ensures) at c.popped_fit.ensures)
    c.if-not-popped_fit.false
    (rw (c.from-column.ensures, c.from-off.ensures) at c.room_in_use.ensures)
    c.if-room-room_in_use.true

pub returns : goal.returns
returns c =
    fault-none _ _ _ _ _ _ _ c.args.held _ (column (goal.at.returns c).Else-factor-column)
    (rw c.from-off.ensures at c.if-held-off.false)
    (rw (c.from-column.ensures, c.from-off.ensures) at c.popped_fit.ensures)
    c.if-not-popped_fit.false
    (rw (c.from-column.ensures, c.from-off.ensures) at c.room_in_use.ensures)
    c.if-room-room_in_use.false
