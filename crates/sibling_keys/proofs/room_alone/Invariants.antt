-- Proves that `room_alone` finds W: it keeps the room of the first i children, the sum of their updates, and the sum of all these but the last.
-- Assumes nothing.
use Rattle.sibling_keys.proofs.Turns.{Turned}
use Rattle.sibling_keys.proofs.room_alone.Given as goal

abbrev pub invariant-loop-kid : goal.invariant-loop-kid
invariant-loop-kid l = Turned l.factor l.rooms l.kids l.most l.before l.below l.kid-index
