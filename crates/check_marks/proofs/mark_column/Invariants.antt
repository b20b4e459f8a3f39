-- Proves that `mark_column` marks and counts R(m + 1): the marked rows and what the children left hand on make the list, and the count is the number
-- of marked rows. Each turn the next child falls, since the chain descends.
-- Assumes nothing.
use Rattle.papers.specs.Job.{column_of}
use Rattle.check_marks.proofs.Counting.{Counting}
use Rattle.check_marks.proofs.mark_column.Given as goal

abbrev pub invariant-loop-c : goal.invariant-loop-c
invariant-loop-c l =
    Counting l.n l.m (column_of l.pattern.starts.now l.pattern.rows.now) l.factor.starts.now l.factor.rows.now l.initial.work l.work l.c l.count

abbrev pub decreases-loop-c : goal.decreases-loop-c
decreases-loop-c l = l.c
