-- Proves that `bisect` finds a row's place, which is never before low nor behind high. Each turn brings the two closer.
-- Assumes nothing.
use native.Mathlib.Omega.{arith}
use Rattle.run_front.proofs.Places.{narrow-above, narrow_below, one_place}
use Rattle.run_front.proofs.bisect.Goals as goal

pub loop-low-init : goal.loop-low-init
loop-low-init c = c.requires.between

pub loop-low-preserved-then-rows-middle : goal.loop-low-preserved-then-rows-middle
loop-low-preserved-then-rows-middle c = narrow-above c.requires.ascending c.loop-low.invariant (omega arith) c.if-rows-middle.true

pub loop-low-preserved : goal.loop-low-preserved
loop-low-preserved c = narrow_below c.requires.ascending c.loop-low.invariant (omega arith) (omega arith) c.if-rows-middle.false

pub returns : goal.returns
returns c = one_place c.loop-low.invariant c.loop-low-test.false
