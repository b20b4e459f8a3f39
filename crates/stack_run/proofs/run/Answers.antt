-- Proves that `run` answers right: a test before the steps refuses and leaves the stack list as it was; or all pass, the steps decide, and the list
-- is cleared after them.
-- Assumes nothing.
use Rattle.std.proofs.Common.{refl}
use Rattle.stack_run.proofs.Outcomes.{steps-given, run-refused, run-steps}
use Rattle.stack_run.proofs.run.Goals as goal

pub returns-in-Err : goal.returns-in-Err
returns-in-Err c = rw c.from.ensures (run-refused _ (c.in-Err.ensures c.args.room) refl)

pub steps-outcome-requires : goal.steps-outcome-requires
steps-outcome-requires c = steps-given _ (c.in_default.ensures c.args.room)

pub returns : goal.returns
returns c =
    rw c.answer.ensures (run-steps _ (c.in_default.ensures c.args.room) c.steps-outcome.ensures
    (let kept = c.steps-outcome.auto.stack in cc (c.fill.ensures.after (λ y e. e))))
