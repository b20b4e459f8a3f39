-- Proves that `first_repeat` finds the first repeat: exactly the columns of the first i steps are marked, and none of them occurs twice.
-- Assumes nothing.
use Rattle.check_steps.proofs.Marks.{marks-start, marks-stop, marks-found, marks-turn}
use Rattle.check_steps.proofs.first_repeat.Goals as goal

pub loop-i-init : goal.loop-i-init
loop-i-init c = marks-start _ c.args.work.now _ c.requires.room (c.fill.ensures.after (λ y e. e))

pub returns-then-work-j-gt0 : goal.returns-then-work-j-gt0
returns-then-work-j-gt0 c = marks-found _ c.requires.columns _ _ _ c.loop-i.invariant c.loop-i-test.true c.if-work-j-gt0.true

pub loop-i-preserved : goal.loop-i-preserved
loop-i-preserved c = marks-turn _ c.requires.columns _ _ _ c.loop-i.invariant c.loop-i-test.true c.if-work-j-gt0.false

pub returns : goal.returns
returns c = marks-stop _ c.requires.columns _ _ _ c.loop-i.invariant c.loop-i-test.false
