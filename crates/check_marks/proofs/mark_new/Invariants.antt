-- Proves that `mark_new` marks a list and counts its new rows: those counted and the new ones among the rows left are all.
-- Assumes nothing.
use Rattle.check_marks.proofs.Newly.{Newly}
use Rattle.check_marks.proofs.mark_new.Given as goal

abbrev pub invariant-loop-row : goal.invariant-loop-row
invariant-loop-row l = Newly l.n l.j l.list l.initial.work l.work l.count l.row-index
