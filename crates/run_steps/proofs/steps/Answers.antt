-- Proves that `steps` runs the steps: after `done` steps without a fault the stack list and the record hold the state.
-- Assumes nothing.
use mathlib.Core.Path.{refl, ◌∙◌}
use native.Mathlib.Omega.{arith}
use Rattle.refusals.proofs.Numbered.{number-not-zero}
use Rattle.run_steps.proofs.Running.{running-start, ready, running-next, answers-fault, answers-left, answers-done}
use Rattle.run_steps.proofs.steps.Goals as goal

pub loop-done-init : goal.loop-done-init
loop-done-init c = running-start _ _ _ _ _ _ _ c.requires.stack-long

pub returns-in-Err : goal.returns-in-Err
returns-in-Err c =
    (rw c.refuse.ensures) ∙ answers-fault _ _ _ _ _ _ _ c.loop-done.invariant (omega arith) c.in-Err.ensures (number-not-zero c.in-Err.refusal)

pub take_step-held-requires : goal.take_step-held-requires
take_step-held-requires c =
    ready _ _ _ _ _ _ _ c.loop-done.invariant (omega arith) c.in-Ok.ensures c.requires refl

pub loop-done-preserved : goal.loop-done-preserved
loop-done-preserved c =
    running-next _ _ _ _ _ _ _ c.loop-done.invariant (omega arith) c.in-Ok.ensures refl (omega arith) c.take_step-held.ensures

pub returns-then-held-ne0 : goal.returns-then-held-ne0
returns-then-held-ne0 c =
    (rw c.refuse-then-held-ne0.ensures) ∙ answers-left _ _ _ _ _ _ _ c.loop-done.invariant c.loop-done-test.false c.if-held-ne0.true

pub returns : goal.returns
returns c =
    answers-done _ _ _ _ _ _ _ c.loop-done.invariant c.loop-done-test.false c.if-held-ne0.false
