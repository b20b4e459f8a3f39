-- Proves that `popped_entries` sums the popped updates: the total is the sum of those from `place` on, and even all entries together fit.
-- Assumes nothing.
use Prim.Native.Nat.{◌-◌}
use lib.ListN.{take}
use Rattle.run_updates.specs.Kept.{held_in_order}
use Rattle.run_updates.proofs.Popped.{Added}
use Rattle.run_updates.proofs.popped_entries.Given as goal

abbrev pub invariant-loop-place : goal.invariant-loop-place
invariant-loop-place l = Added l.factor.n l.factor.starts.now l.factor.rows.now l.stack
    (take l.pops (held_in_order l.count l.stack)) (l.count - l.pops) l.count l.place l.total
