-- Proves that `number` makes the bytes of x, since the groups left, stored from count on, complete them, and each turn stores the low group. Each
-- turn makes the rest smaller.
-- Assumes nothing.
use Rattle.groups.proofs.Written.{Left}
use Rattle.groups.proofs.number.Given as goal

abbrev pub invariant-loop-v : goal.invariant-loop-v
invariant-loop-v l = Left l.initial.bytes 0 l.x l.bytes l.v l.count

abbrev pub decreases-loop-v : goal.decreases-loop-v
decreases-loop-v l = l.v
