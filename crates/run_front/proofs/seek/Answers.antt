-- Proves that `seek` finds a row's place, which is never before low, and low is never behind the place looked at. Each turn leaves fewer places.
-- Assumes nothing.
use native.Mathlib.Omega.{arith}
use Rattle.run_front.proofs.Places.{narrow-above, narrow_below}
use Rattle.run_front.proofs.seek.Goals as goal

pub bisect-requires : goal.bisect-requires
bisect-requires c =
    let ascending = c.requires.ascending in
    let l = c.loop-look.invariant in
    record {
      ascending = ascending;
      between = narrow_below ascending l.between l.ahead c.loop-look-test.true c.if-row-rows.true;
    }

pub loop-look-preserved : goal.loop-look-preserved
loop-look-preserved c =
    let l = c.loop-look.invariant in
    record {
      between = narrow-above c.requires.ascending l.between c.loop-look-test.true c.if-row-rows.false;
      ahead = omega arith;
      on = omega arith;
    }
