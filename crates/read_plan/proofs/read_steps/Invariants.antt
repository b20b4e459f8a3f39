-- Proves that `read_steps` reads all steps: the first i are read and kept, and those left, put onto them, are all.
-- Assumes nothing.
use Rattle.read_plan.proofs.Steps.{Steps}
use Rattle.read_plan.proofs.read_steps.Given as goal

abbrev pub invariant-loop-i : goal.invariant-loop-i
invariant-loop-i l = Steps l.n l.plan l.at l.initial.order l.initial.pops l.order l.pops l.k l.i
