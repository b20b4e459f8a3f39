-- Proves that `mark` marks every row of the list, since marking the rows left completes what was marked.
-- Assumes nothing.
use Prim.Native.Nat.{◌+◌, ◌<◌}
use native.Mathlib.Omega.{arith}
use lib.ListN.{length, get_or}
use Rattle.child_lists.proofs.Marks.{mark-turn, mark-stop, mark-place}
use Rattle.child_lists.proofs.mark.Goals as goal
use Rattle.child_lists.proofs.mark.Goals.{In-loop-row}

-- work has the place of the mark of the row at k
place : (c : In-loop-row) → c.args.n + c.args.n + get_or c.args.list.now c.loop-row.row-index 0
    < length c.args.work.now
place c = mark-place c.requires _ c.loop-row-test.true

pub bounds-work-n : goal.bounds-work-n
bounds-work-n c = omega (arith, place (goal.at.bounds-work-n c).In-loop-row, c.loop-row.invariant.long)

pub loop-row-preserved : goal.loop-row-preserved
loop-row-preserved c = mark-turn c.loop-row.invariant c.loop-row-test.true

pub returns : goal.returns
returns c = mark-stop c.loop-row.invariant c.loop-row-test.false
