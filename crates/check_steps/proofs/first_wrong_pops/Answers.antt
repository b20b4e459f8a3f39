-- Proves that `first_wrong_pops` finds the first step with wrong pops: work holds the numbers of children, and the pops of the first i steps agree
-- with them.
-- Assumes nothing.
use Rattle.std.proofs.Common.{sym, ◌∙◌, arith}
use lib.Seq.{length-take-le}
use Rattle.check_steps.proofs.Pops.{popped-start, popped-stop, popped-found, popped-turn}
use Rattle.check_steps.proofs.first_wrong_pops.Goals as goal

pub count_children-requires : goal.count_children-requires
count_children-requires c = record { tree = c.requires.tree; long = length-take-le _ c.args.work.now (omega arith) }

pub loop-i-init : goal.loop-i-init
loop-i-init c = popped-start _ _ _ c.args.work.now _ c.requires.room (omega arith) c.count_children.ensures

pub returns-then-from-work : goal.returns-then-from-work
returns-then-from-work c =
    popped-found _ _ _ c.requires.columns c.requires.order-length _ _ c.loop-i.invariant c.loop-i-test.true
    (λ e. c.if-from-work.true (c.from.ensures ∙ e))

pub loop-i-preserved : goal.loop-i-preserved
loop-i-preserved c =
    popped-turn _ _ _ c.requires.columns c.requires.order-length _ _ c.loop-i.invariant c.loop-i-test.true
    (sym c.from.ensures ∙ c.if-from-work.false)

pub returns : goal.returns
returns c = popped-stop _ _ _ c.requires.columns c.requires.order-length _ _ c.loop-i.invariant c.loop-i-test.false
