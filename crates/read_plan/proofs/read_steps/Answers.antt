-- Proves that `read_steps` reads all steps: the first i are read and kept, and those left, put onto them, are all.
-- Assumes nothing.
use Rattle.std.proofs.lemmas.Result.{err_from_is_err_and}
use Rattle.read_plan.proofs.Steps.{steps-start, steps-turn, steps-fault, steps-stop}
use Rattle.read_plan.proofs.read_steps.Goals as goal

pub loop-i-init : goal.loop-i-init
loop-i-init c = steps-start _ _ _ _ _ c.requires.inside

pub returns-in_err-k : goal.returns-in_err-k
returns-in_err-k c =
    let p = err_from_is_err_and c.from_residual.result c.from_residual.ensures.1 in
    rw (p.1, p.2) (steps-fault c.loop-i.invariant c.loop-i-test.true c.in_err-k.ensures)

pub loop-i-preserved : goal.loop-i-preserved
loop-i-preserved c = steps-turn c.loop-i.invariant c.loop-i-test.true c.in_ok-k.ensures

pub returns : goal.returns
returns c = steps-stop c.loop-i.invariant c.loop-i-test.false
