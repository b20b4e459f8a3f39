-- Proves that `join_children` makes the whole list of the rows so far and what the children hand on. It may skip a child whose rows are all marked,
-- since every marked row is in the list. Each turn d falls, since the chain descends.
-- Assumes nothing.
use Rattle.child_lists.proofs.Joining.{State}
use Rattle.child_lists.proofs.join_children.Given as goal

abbrev pub invariant-loop-d : goal.invariant-loop-d
invariant-loop-d l = State l.n l.j l.c l.len l.factor.starts.now l.factor.rows.now l.initial.work l.initial.x l.initial.y l.work l.x l.y l.d l.turn l.count

abbrev pub decreases-loop-d : goal.decreases-loop-d
decreases-loop-d l = l.d
