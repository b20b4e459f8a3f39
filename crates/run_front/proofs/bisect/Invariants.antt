-- Proves that `bisect` finds a row's place, which is never before low nor behind high. Each turn brings the two closer.
-- Assumes nothing.
use Prim.Native.Nat.{◌-◌}
use Rattle.run_front.specs.Search.{Bracket}
use Rattle.run_front.proofs.bisect.Given as goal

abbrev pub invariant-loop-low : goal.invariant-loop-low
invariant-loop-low l = Bracket l.rows l.row l.low l.high

abbrev pub decreases-loop-low : goal.decreases-loop-low
decreases-loop-low l = l.high - l.low
