-- Proves that `write_steps` writes the step of each column: no column has two steps, so a step once written stays. The first k steps are written.
-- Assumes nothing.
use Rattle.check_subtrees.proofs.Placing.{Writing}
use Rattle.check_subtrees.proofs.write_steps.Given as goal

abbrev pub invariant-loop-k : goal.invariant-loop-k
invariant-loop-k l = Writing l.order l.steps l.k
