-- Proves that `popped_fit` tests all popped updates: those from `place` on are in the front, so the others decide.
-- Assumes nothing.
use Prim.Native.Nat.{◌-◌}
use lib.ListN.{take}
use Rattle.run_updates.specs.Kept.{held_in_order}
use Rattle.run_updates.proofs.Popped.{Looked}
use Rattle.run_updates.proofs.popped_fit.Given as goal

abbrev pub invariant-loop-place : goal.invariant-loop-place
invariant-loop-place l = Looked l.factor.n l.factor.starts.now l.factor.rows.now l.stack l.column
    (take l.pops (held_in_order l.count l.stack)) (l.count - l.pops) l.count l.place
