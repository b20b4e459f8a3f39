-- Proves that `popped_entries` sums the popped updates: the total is the sum of those from `place` on, and even all entries together fit.
-- Assumes nothing.
use native.Mathlib.Omega.{arith}
use Rattle.run_updates.proofs.Entries.{popped-small}
use Rattle.run_updates.proofs.Popped.{added-end, added_next, added-within}
use Rattle.run_updates.proofs.popped_entries.Goals as goal

pub overflow_add-total : goal.overflow_add-total
overflow_add-total c =
    let asked = c.requires in
    omega (
      arith,
      added-within _ _ _ _ c.loop-place.invariant c.loop-place-test.true c.from.ensures c.entries_of-total.ensures,
      popped-small _ _ _ asked.tested asked.kept c.args.pops,
    )

pub loop-place-preserved : goal.loop-place-preserved
loop-place-preserved c =
    added_next _ _ _ _ c.loop-place.invariant c.loop-place-test.true c.from.ensures c.entries_of-total.ensures

pub returns : goal.returns
returns c = added-end _ _ _ _ c.loop-place.invariant c.loop-place-test.false
