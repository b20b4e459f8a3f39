-- Proves that `alike` counts the first rows that two lists share: the first i are equal.
-- Assumes nothing.
use native.Mathlib.Omega.{arith}
use Rattle.run_front.proofs.SameRows.{same_next}
use Rattle.run_front.proofs.alike.Goals as goal

pub loop-i-preserved : goal.loop-i-preserved
loop-i-preserved c =
    same_next c.loop-i.invariant (omega (arith, c.loop-i-test.true, c.min-end.ensures)) c.if-a-i.false
