-- Proves that `mark` marks every row of the list, since marking the rows left completes what was marked.
-- Assumes nothing.
use Rattle.child_lists.proofs.Marks.{Marking}
use Rattle.child_lists.proofs.mark.Given as goal

abbrev pub invariant-loop-row : goal.invariant-loop-row
invariant-loop-row l = Marking l.n l.j l.list l.initial.work l.work l.row-index
