-- Proves that `alike` counts the first rows that two lists share: the first i are equal.
-- Assumes nothing.
use Rattle.run_front.specs.Search.{SameFirst}
use Rattle.run_front.proofs.alike.Given as goal

abbrev pub invariant-loop-i : goal.invariant-loop-i
invariant-loop-i l = SameFirst l.a l.b l.i
