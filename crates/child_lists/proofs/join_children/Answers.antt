-- Proves that `join_children` makes the whole list of the rows so far and what the children hand on. It may skip a child whose rows are all marked,
-- since every marked row is in the list. Each turn d falls, since the chain descends.
-- Assumes nothing.
use Rattle.std.proofs.Common.{◌+◌, ◌<◌, ◌∙◌, length, sym, arith}
use Rattle.child_lists.proofs.Joining.{begin, stop}
use Rattle.child_lists.proofs.NextChild.{child-at, falls, link-first, falls-marked, markable, roomy, passes_over, joins}
use Rattle.child_lists.proofs.join_children.Goals as goal
use Rattle.child_lists.proofs.join_children.Goals.{In-loop-d, then-not-covered, else-not-covered}

-- In the loop the link of d has its place in work: the answers below cite this.
place : (c : In-loop-d) → c.args.n + c.loop-d.d < length c.args.work.now
place c = link-first c.loop-d.invariant c.loop-d-test.true

pub loop-d-init : goal.loop-d-init
loop-d-init c = begin c.requires

pub handed_on-more-requires : goal.handed_on-more-requires
handed_on-more-requires c = child-at c.loop-d.invariant c.loop-d-test.true

pub covered-requires : goal.covered-requires
covered-requires c = markable c.loop-d.invariant c.loop-d-test.true c.handed_on-more.ensures

pub join_rows-count-requires : goal.join_rows-count-requires
join_rows-count-requires c = roomy c.loop-d.invariant c.loop-d-test.true c.handed_on-more.ensures

pub mark-requires : goal.mark-requires
mark-requires c = markable c.loop-d.invariant c.loop-d-test.true c.handed_on-more.ensures

pub overflow_add-d : goal.overflow_add-d
overflow_add-d c = omega (arith, place (goal.at.overflow_add-d c).In-loop-d, c.well_formed)

pub offset_bounds-work-n : goal.offset_bounds-work-n
offset_bounds-work-n c = omega (arith, place (goal.at.offset_bounds-work-n c).In-loop-d, c.well_formed)

pub bounds-work-n : goal.bounds-work-n
bounds-work-n c = omega (arith, place (goal.at.bounds-work-n c).In-loop-d, c.loop-d.invariant.long-w, c.if-not-covered.auto.work)

pub loop-d-smaller : goal.loop-d-smaller
loop-d-smaller c =
    let s = c.loop-d.invariant in
    let h = c.loop-d-test.true in
    elim c.if-not-covered.branch [
      | then-not-covered w ↦ rw w.work-is (falls-marked s h c.handed_on-more.ensures w.mark.ensures)
      | else-not-covered w ↦ rw w.work-is (falls s h)
    ]

pub loop-d-preserved : goal.loop-d-preserved
loop-d-preserved c =
    let s = c.loop-d.invariant in
    let h = c.loop-d-test.true in
    elim c.if-not-covered.branch [
      | then-not-covered w ↦
          rw (w.work-is, w.x-is, w.y-is, w.turn-is, w.count-is)
          (joins s h c.handed_on-more.ensures w.mark.ensures w.join_rows-count.ensures (omega arith) (omega arith) (omega arith))
      | else-not-covered w ↦
          rw (w.work-is, w.x-is, w.y-is, w.turn-is, w.count-is)
          (passes_over s h c.handed_on-more.ensures (sym w.if-not-covered.false ∙ c.covered.ensures))
    ]

pub returns : goal.returns
returns c = stop c.loop-d.invariant c.loop-d-test.false
