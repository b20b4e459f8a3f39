-- Proves that `peak` finds the greatest room: after each step below holds the sums of the updates held, and most is the greatest room so far.
-- Assumes nothing.
use Rattle.std.proofs.Common.{length}
use Rattle.room.proofs.Stacks.{Peaked}
use Rattle.room.proofs.peak.Given as goal

abbrev pub invariant-loop-column : goal.invariant-loop-column
invariant-loop-column l = Peaked l.factor l.order l.pops l.initial.below l.below l.depth l.most (length l.yielded)
