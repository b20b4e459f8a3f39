-- Proves that `first_stray` finds the least stray step, since it keeps the least of the first i columns.
-- Assumes nothing.
use Rattle.check_subtrees.proofs.Earliest.{earliest-none, earliest-next}
use Rattle.check_subtrees.proofs.first_stray.Goals as goal

pub loop-i-init : goal.loop-i-init
loop-i-init c = earliest-none _ _

pub loop-i-preserved : goal.loop-i-preserved
loop-i-preserved c =
    earliest-next _ c.loop-i.invariant c.loop-i-test.true c.stray_step.ensures c.lesser_step-first.ensures
