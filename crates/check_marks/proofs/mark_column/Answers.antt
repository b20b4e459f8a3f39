-- Proves that `mark_column` marks and counts R(m + 1): the marked rows and what the children left hand on make the list, and the count is the number
-- of marked rows. Each turn the next child falls, since the chain descends.
-- Assumes nothing.
use Prim.Native.Nat.{◌+◌, ◌<◌}
use native.Mathlib.Omega.{arith}
use lib.ListN.{length}
use Rattle.column_list.proofs.Begins.{part_of}
use Rattle.check_marks.proofs.Counting.{own-once, own-changed, count-begin, count-few, child-at, link}
use Rattle.check_marks.proofs.Counting.{more-once, falls, count_turn, count-stop}
use Rattle.check_marks.proofs.mark_column.Goals as goal
use Rattle.check_marks.proofs.mark_column.Goals.{In-loop-c}

-- In the loop the link of child c has its place in work: the answers below cite this with `place (search)`.
place : (c : In-loop-c) → c.args.n + c.loop-c.c < length c.args.work.now
place c =
    omega (arith, link c.loop-c.invariant c.loop-c-test.true, c.loop-c.invariant.long)

pub column-requires : goal.column-requires
column-requires c = part_of c.requires

pub mark_new-count-requires : goal.mark_new-count-requires
mark_new-count-requires c = own-once c.requires c.column.ensures

pub loop-c-init : goal.loop-c-init
loop-c-init c =
    count-begin c.requires c.column.ensures c.mark_new-count.ensures
    (omega arith)

pub handed_on-requires : goal.handed_on-requires
handed_on-requires c = child-at c.loop-c.invariant c.loop-c-test.true

pub mark_new-count-requires-in-loop-c : goal.mark_new-count-requires-in-loop-c
mark_new-count-requires-in-loop-c c = more-once c.loop-c.invariant c.loop-c-test.true c.handed_on.ensures

pub overflow_add-count : goal.overflow_add-count
overflow_add-count c =
    let turned = count_turn c.loop-c.invariant c.loop-c-test.true c.handed_on.ensures
    c.mark_new-count-in-loop-c.ensures (omega arith) in
    omega (arith, count-few turned, c.requires.tested.few)

pub overflow_add-c-in-loop-c : goal.overflow_add-c-in-loop-c
overflow_add-c-in-loop-c c = omega (arith, place (goal.at.overflow_add-c-in-loop-c c).In-loop-c, c.well_formed)

pub offset_bounds-work-n : goal.offset_bounds-work-n
offset_bounds-work-n c = omega (arith, place (goal.at.offset_bounds-work-n c).In-loop-c, c.well_formed)

pub bounds-work-n : goal.bounds-work-n
bounds-work-n c = omega (arith, link c.loop-c.invariant c.loop-c-test.true)

pub loop-c-smaller : goal.loop-c-smaller
loop-c-smaller c =
    falls c.loop-c.invariant c.loop-c-test.true c.handed_on.ensures
    c.mark_new-count-in-loop-c.ensures

pub loop-c-preserved : goal.loop-c-preserved
loop-c-preserved c =
    count_turn c.loop-c.invariant c.loop-c-test.true c.handed_on.ensures
    c.mark_new-count-in-loop-c.ensures (omega arith)

pub returns : goal.returns
returns c =
    count-stop c.loop-c.invariant (own-changed c.requires c.column.ensures c.mark_new-count.ensures)
    c.loop-c-test.false
