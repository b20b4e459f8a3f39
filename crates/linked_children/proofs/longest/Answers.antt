-- Proves that `longest` finds the child with the most rows, since no child before d has more rows than the best, and the links list the others from d
-- on. Each turn d falls, since the chain descends.
-- Assumes nothing.
use Prim.Native.Nat.{◌+◌, ◌<◌}
use native.Mathlib.Omega.{arith}
use lib.ListN.{length}
use Rattle.linked_children.specs.Children.{Child}
use Rattle.linked_children.proofs.Picking.{child-at, link, goes_down, takes, keeps, picked}
use Rattle.linked_children.proofs.longest.Goals as goal
use Rattle.linked_children.proofs.longest.Goals.{In-loop-d, then-most-rows, else-most-rows}

-- In the loop d is a child, and its link has its place: the answers below cite this with `child (search)` and `place (search)`.
child : (c : In-loop-d) → Child c.args.fstarts.now c.loop-d.d
child c = child-at c.loop-d.invariant c.loop-d-test.true

place : (c : In-loop-d) → c.args.n + c.loop-d.d < length c.args.work.now
place c = link c.loop-d.invariant c.loop-d-test.true

pub offset_bounds-fstarts-d : goal.offset_bounds-fstarts-d
offset_bounds-fstarts-d c = omega (arith, child (goal.at.offset_bounds-fstarts-d c).In-loop-d)

pub bounds-fstarts-d : goal.bounds-fstarts-d
bounds-fstarts-d c = (child (goal.at.bounds-fstarts-d c).In-loop-d).started

pub offset_bounds-fstarts-d-in-loop-d : goal.offset_bounds-fstarts-d-in-loop-d
offset_bounds-fstarts-d-in-loop-d c = omega (arith, child (goal.at.offset_bounds-fstarts-d-in-loop-d c).In-loop-d)

pub bounds-fstarts-d-in-loop-d : goal.bounds-fstarts-d-in-loop-d
bounds-fstarts-d-in-loop-d c = omega (arith, child (goal.at.bounds-fstarts-d-in-loop-d c).In-loop-d)

pub overflow_sub-rows-in-loop-d : goal.overflow_sub-rows-in-loop-d
overflow_sub-rows-in-loop-d c = omega (arith, child (goal.at.overflow_sub-rows-in-loop-d c).In-loop-d)

pub overflow_add-d : goal.overflow_add-d
overflow_add-d c = omega (arith, place (goal.at.overflow_add-d c).In-loop-d, c.well_formed)

pub offset_bounds-work-n : goal.offset_bounds-work-n
offset_bounds-work-n c = omega (arith, place (goal.at.offset_bounds-work-n c).In-loop-d, c.well_formed)

pub bounds-work-n : goal.bounds-work-n
bounds-work-n c = place (goal.at.bounds-work-n c).In-loop-d

pub loop-d-smaller : goal.loop-d-smaller
loop-d-smaller c = goes_down c.loop-d.invariant c.loop-d-test.true

pub loop-d-preserved : goal.loop-d-preserved
loop-d-preserved c =
    elim c.if-most-rows.branch [
      | then-most-rows w ↦ rw (w.best-is, w.most-is) (takes c.loop-d.invariant c.loop-d-test.true w.if-most-rows.true)
      | else-most-rows w ↦ rw (w.best-is, w.most-is) (keeps c.loop-d.invariant c.loop-d-test.true w.if-most-rows.false)
    ]

pub returns : goal.returns
returns c = picked c.loop-d.invariant c.loop-d-test.false
