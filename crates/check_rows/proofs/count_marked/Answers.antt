-- Proves that `count_marked` counts the marked rows: the count and the marked rows among those left make them all.
-- Assumes nothing.
use Prim.Native.Nat.{◌+◌, ◌<◌}
use lib.ListN.{length, get_or}
use borrow.Author.Tests.{eq-eqb, ne_eqb}
use Rattle.child_lists.proofs.Marks.{mark-place}
use Rattle.check_rows.proofs.Comparing.{counts-one, counts-none, counts_end}
use Rattle.check_rows.proofs.count_marked.Goals as goal
use Rattle.check_rows.proofs.count_marked.Goals.{In-loop-row, then-work-n, else-work-n}

-- work has the place of the mark of the row
place : (c : In-loop-row) → c.args.n + c.args.n + get_or c.args.list.now c.loop-row.row-index 0
    < length c.args.work.now
place c = mark-place c.requires _ c.loop-row-test.true

pub bounds-work-n : goal.bounds-work-n
bounds-work-n c = place (goal.at.bounds-work-n c).In-loop-row

pub loop-row-preserved : goal.loop-row-preserved
loop-row-preserved c =
    elim c.if-work-n.branch [
      | then-work-n w ↦ rw w.count-is (counts-one c.loop-row.invariant c.loop-row-test.true (eq-eqb _ _ w.if-work-n.true))
      | else-work-n w ↦ rw w.count-is (counts-none c.loop-row.invariant c.loop-row-test.true (ne_eqb _ _ w.if-work-n.false))
    ]

pub returns : goal.returns
returns c = counts_end c.loop-row.invariant c.loop-row-test.false
