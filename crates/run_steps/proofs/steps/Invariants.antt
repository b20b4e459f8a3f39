-- Proves that `steps` runs the steps: after `done` steps without a fault the stack list and the record hold the state.
-- Assumes nothing.
use Rattle.run_steps.proofs.Running.{Running}
use Rattle.run_steps.proofs.steps.Given as goal

abbrev pub invariant-loop-done : goal.invariant-loop-done
invariant-loop-done l = Running l.factor.n l.factor.starts.now l.factor.rows.now l.columns l.pops l.room l.initial.stack l.stack l.held l.done
