-- Proves that `first_wrong_pops` finds the first step with wrong pops: work holds the numbers of children, and the pops of the first i steps agree
-- with them.
-- Assumes nothing.
use Rattle.check_steps.proofs.Pops.{Popped}
use Rattle.check_steps.proofs.first_wrong_pops.Given as goal

abbrev pub invariant-loop-i : goal.invariant-loop-i
invariant-loop-i l = Popped l.parents l.order l.pops l.work l.i
