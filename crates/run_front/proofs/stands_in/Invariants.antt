-- Proves that `stands_in` tests every row of an update: the first i are in the front, and the front's rows before the last one found are below the
-- next. Each turn leaves fewer rows.
-- Assumes nothing.
use Prim.Native.Nat.{◌-◌}
use lib.ListN.{length}
use Rattle.run_front.proofs.Sweeps.{Swept}
use Rattle.run_front.proofs.stands_in.Given as goal

abbrev pub invariant-loop-i : goal.invariant-loop-i
invariant-loop-i l = Swept l.column l.rows l.update l.found l.i

abbrev pub decreases-loop-i : goal.decreases-loop-i
decreases-loop-i l = length l.update - l.i
