-- Proves that `first_repeat` finds the first repeat: exactly the columns of the first i steps are marked, and none of them occurs twice.
-- Assumes nothing.
use Rattle.check_steps.proofs.Marks.{Marks}
use Rattle.check_steps.proofs.first_repeat.Given as goal

abbrev pub invariant-loop-i : goal.invariant-loop-i
invariant-loop-i l = Marks l.order l.initial.work l.work l.i
