-- Proves that `count_marked` counts the marked rows: the count and the marked rows among those left make them all.
-- Assumes nothing.
use Rattle.child_lists.specs.Marks.{is_marked}
use Rattle.check_rows.proofs.Comparing.{Counts}
use Rattle.check_rows.proofs.count_marked.Given as goal

abbrev pub invariant-loop-row : goal.invariant-loop-row
invariant-loop-row l = Counts (is_marked l.n l.j l.work) l.list l.count l.row-index
