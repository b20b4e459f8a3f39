-- Proves that `first_wrong_list` finds the first wrong list: those of the columns up to m are right, so the next can be compared with R(m + 1), and
-- if it differs it is the first.
-- Assumes nothing.
use native.Mathlib.Omega.{arith}
use Rattle.check_lists.proofs.Passing.{pass-begin, pass_all, pass-part, pass-next, pass-wrong, pass-hangable, pass_on}
use Rattle.check_lists.proofs.first_wrong_list.Goals as goal

pub loop-m-init : goal.loop-m-init
loop-m-init c = pass-begin c.requires (c.fill.ensures.after (λ y e. e))

pub column-list-requires : goal.column-list-requires
column-list-requires c = pass-part c.loop-m.invariant c.loop-m-test.true

pub is_right-requires : goal.is_right-requires
is_right-requires c = pass-next c.loop-m.invariant c.loop-m-test.true c.column-list.ensures

pub returns-then-not-is_right : goal.returns-then-not-is_right
returns-then-not-is_right c =
    pass-wrong c.loop-m.invariant c.loop-m-test.true c.column-list.ensures
    c.is_right.ensures c.if-not-is_right.true

pub hang-requires : goal.hang-requires
hang-requires c =
    pass-hangable c.loop-m.invariant c.loop-m-test.true c.column-list.ensures
    c.is_right.ensures c.if-not-is_right.false (omega arith)
    c.least-p.ensures

pub loop-m-preserved : goal.loop-m-preserved
loop-m-preserved c =
    pass_on c.loop-m.invariant c.loop-m-test.true c.column-list.ensures
    c.is_right.ensures c.if-not-is_right.false (omega arith)
    c.least-p.ensures c.hang.ensures (omega arith)

pub returns : goal.returns
returns c = pass_all c.loop-m.invariant c.loop-m-test.false
