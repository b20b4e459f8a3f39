-- Proves that `climb` marks and counts each column on the way: each has row i, and so has its parent unless that is row i itself. It ends at a marked
-- column, at the latest at column i. Each turn goes to a higher column.
-- Assumes nothing.
use Prim.Native.Nat.{◌-◌}
use Rattle.needed_climb.proofs.Climbs.{Climb}
use Rattle.needed_climb.proofs.climb.Given as goal

abbrev pub invariant-loop-work : goal.invariant-loop-work
invariant-loop-work l = Climb l.i l.k l.initial.parents l.initial.work l.count l.parents l.work l.t l.c

abbrev pub decreases-loop-work : goal.decreases-loop-work
decreases-loop-work l = l.i - l.c
