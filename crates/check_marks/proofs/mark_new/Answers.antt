-- Proves that `mark_new` marks a list and counts its new rows: those counted and the new ones among the rows left are all.
-- Assumes nothing.
use Prim.Native.Nat.{◌+◌, ◌<◌}
use native.Mathlib.Omega.{arith}
use lib.ListN.{length, get_or}
use Rattle.child_lists.proofs.Marks.{mark-place}
use Rattle.check_marks.proofs.Newly.{new-begin, new-old, new-mark, new-stop}
use Rattle.check_marks.proofs.mark_new.Goals as goal
use Rattle.check_marks.proofs.mark_new.Goals.{In-loop-row, then-work-p, else-work-p}

-- work has the place of the mark of the row
place : (c : In-loop-row) → c.args.n + c.args.n + get_or c.args.list.now c.loop-row.row-index 0
    < length c.args.work.now
place c = mark-place c.requires.markable _ c.loop-row-test.true

pub loop-row-init : goal.loop-row-init
loop-row-init c = new-begin _ c.requires

pub overflow_add-p-in-loop-row : goal.overflow_add-p-in-loop-row
overflow_add-p-in-loop-row c = omega (arith, place (goal.at.overflow_add-p-in-loop-row c).In-loop-row, c.well_formed)

pub offset_bounds-work-p : goal.offset_bounds-work-p
offset_bounds-work-p c = omega (arith, place (goal.at.offset_bounds-work-p c).In-loop-row, c.well_formed)

pub bounds-work-p : goal.bounds-work-p
bounds-work-p c = omega (arith, place (goal.at.bounds-work-p c).In-loop-row, c.loop-row.invariant.marking.long)

pub offset_bounds-work-p-in-loop-row : goal.offset_bounds-work-p-in-loop-row
offset_bounds-work-p-in-loop-row c = omega (arith, place (goal.at.offset_bounds-work-p-in-loop-row c).In-loop-row, c.well_formed)

pub bounds-work-p-in-loop-row : goal.bounds-work-p-in-loop-row
bounds-work-p-in-loop-row c = omega (arith, place (goal.at.bounds-work-p-in-loop-row c).In-loop-row, c.loop-row.invariant.marking.long)

pub loop-row-preserved : goal.loop-row-preserved
loop-row-preserved c =
    elim c.if-work-p.branch [
      | then-work-p w ↦ rw w.count-is (new-mark c.loop-row.invariant c.loop-row-test.true w.if-work-p.true)
      | else-work-p w ↦ rw w.count-is (new-old c.loop-row.invariant c.loop-row-test.true w.if-work-p.false)
    ]

pub returns : goal.returns
returns c = new-stop c.loop-row.invariant c.loop-row-test.false
