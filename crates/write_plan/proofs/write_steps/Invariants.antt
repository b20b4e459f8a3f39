-- Proves that `write_steps` stores all steps, since storing those behind the steps that came at next leaves what storing all of them leaves.
-- Assumes nothing.
use Rattle.std.proofs.Common.{length}
use Rattle.write_plan.proofs.Steps.{WritesSteps}
use Rattle.write_plan.proofs.write_steps.Given as goal

abbrev pub invariant-loop-column : goal.invariant-loop-column
invariant-loop-column l =
    WritesSteps l.order l.pops l.initial.bytes l.initial.next l.bytes l.next (length l.yielded)
