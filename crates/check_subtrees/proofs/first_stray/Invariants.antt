-- Proves that `first_stray` finds the least stray step, since it keeps the least of the first i columns.
-- Assumes nothing.
use lib.ListN.{length}
use Rattle.tree.specs.Parents.{parent_in}
use Rattle.check_subtrees.specs.Steps.{number_for}
use Rattle.check_subtrees.specs.Strays.{stray_step_of}
use Rattle.check_subtrees.proofs.Earliest.{Earlier}
use Rattle.check_subtrees.proofs.first_stray.Given as goal

abbrev pub invariant-loop-i : goal.invariant-loop-i
invariant-loop-i l =
    Earlier (stray_step_of (parent_in l.parents) (number_for l.steps) (number_for l.below)) (length l.parents) l.first l.i
