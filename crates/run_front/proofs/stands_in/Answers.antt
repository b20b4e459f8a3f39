-- Proves that `stands_in` tests every row of an update: the first i are in the front, and the front's rows before the last one found are below the
-- next. Each turn leaves fewer rows.
-- Assumes nothing.
use Rattle.run_front.proofs.Sweeps.{swept-end, swept-column, swept-alike, swept-missing}
use Rattle.run_front.proofs.stands_in.Goals as goal

pub loop-i-preserved-then-from-column : goal.loop-i-preserved-then-from-column
loop-i-preserved-then-from-column c = swept-column c.loop-i.invariant c.loop-i-test.true c.requires.update-ascends (rw c.from.ensures at c.if-from-column.true)

pub returns-then-same-eq0 : goal.returns-then-same-eq0
returns-then-same-eq0 c =
    swept-missing c.loop-i.invariant c.loop-i-test.true c.requires.front-ascends
    (rw c.from.ensures at c.if-from-column.false)
    c.seek-place.ensures (rw c.if-same-eq0.true at c.alike-same.ensures)

pub loop-i-preserved : goal.loop-i-preserved
loop-i-preserved c =
    swept-alike c.requires.update-ascends c.loop-i.invariant c.loop-i-test.true
    c.seek-place.ensures
    c.alike-same.ensures

pub returns : goal.returns
returns c = swept-end c.loop-i.invariant c.loop-i-test.false
