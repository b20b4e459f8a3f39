-- Proves that `popped_fit` tests all popped updates: those from `place` on are in the front, so the others decide.
-- Assumes nothing.
use native.Mathlib.Omega.{arith}
use Rattle.run_front.proofs.Columns.{column-ascends}
use Rattle.run_updates.proofs.Popped.{looked-end, looked-next, looked-outside}
use Rattle.run_updates.proofs.popped_fit.Goals as goal

pub stands_in-requires : goal.stands_in-requires
stands_in-requires c =
    let asked = c.requires in
    let within = c.loop-place.invariant.within in
    record {
      front-ascends = rw c.rows_of-front.ensures (column-ascends asked.tested asked.column);
      update-ascends =
          rw c.rows_of-update.ensures
          (column-ascends asked.tested (rw c.from.ensures (asked.kept.columns _ (omega (arith, c.loop-place-test.true)))));
    }

pub loop-place-preserved : goal.loop-place-preserved
loop-place-preserved c =
    looked-next _ _ _ _ _ c.loop-place.invariant c.loop-place-test.true c.rows_of-front.ensures
    c.from.ensures c.rows_of-update.ensures c.stands_in.ensures
    c.if-not-stands_in.false

pub returns-then-not-stands_in : goal.returns-then-not-stands_in
returns-then-not-stands_in c =
    looked-outside _ _ _ _ _ c.loop-place.invariant c.loop-place-test.true c.rows_of-front.ensures
    c.from.ensures c.rows_of-update.ensures c.stands_in.ensures
    c.if-not-stands_in.true

pub returns : goal.returns
returns c = looked-end _ _ _ _ _ c.loop-place.invariant c.loop-place-test.false
