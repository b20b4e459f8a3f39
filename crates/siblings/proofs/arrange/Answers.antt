-- Proves that `arrange` arranges all lists: those of the columns before j are arranged, and their W stored.
-- Assumes nothing.
use Rattle.std.proofs.Common.{arith}
use Rattle.siblings.proofs.Arranging.{none-arranged, arranging-stop, arranging-placed}
use Rattle.siblings.proofs.OneArranged.{arranging-turn}
use Rattle.siblings.proofs.arrange.Goals as goal

pub returns-then-mark-eq0 : goal.returns-then-mark-eq0
returns-then-mark-eq0 c = none-arranged c.requires c.if-mark-eq0.true

pub arrange_at-requires : goal.arrange_at-requires
arrange_at-requires c =
    arranging-placed c.requires c.loop-j.invariant (omega (
      arith,
      c.loop-j-test.true,
      c.loop-j.invariant.list-long,
    ))

pub loop-j-preserved : goal.loop-j-preserved
loop-j-preserved c =
    let loop = c.loop-j in
    let arrange-at = c.arrange_at in
    arranging-turn c.requires loop.invariant (omega (arith, c.loop-j-test.true, loop.invariant.list-long)) arrange-at.ensures
    (omega arith) (omega arith) (omega arith)

pub returns : goal.returns
returns c = arranging-stop c.requires c.loop-j.invariant (omega (arith, c.loop-j-test.false, c.loop-j.invariant.list-long))
