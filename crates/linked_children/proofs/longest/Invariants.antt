-- Proves that `longest` finds the child with the most rows, since no child before d has more rows than the best, and the links list the others from d
-- on. Each turn d falls, since the chain descends.
-- Assumes nothing.
use Rattle.linked_children.proofs.Picking.{Picking}
use Rattle.linked_children.proofs.longest.Given as goal

abbrev pub invariant-loop-d : goal.invariant-loop-d
invariant-loop-d l = Picking l.n l.c l.fstarts l.work l.best l.most l.d

abbrev pub decreases-loop-d : goal.decreases-loop-d
decreases-loop-d l = l.d
