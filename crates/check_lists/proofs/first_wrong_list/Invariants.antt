-- Proves that `first_wrong_list` finds the first wrong list: those of the columns up to m are right, so the next can be compared with R(m + 1), and
-- if it differs it is the first.
-- Assumes nothing.
use Rattle.check_lists.proofs.Passing.{Passing}
use Rattle.check_lists.proofs.first_wrong_list.Given as goal

abbrev pub invariant-loop-m : goal.invariant-loop-m
invariant-loop-m l =
    Passing l.n l.pattern.starts.now l.pattern.rows.now l.factor.starts.now l.factor.rows.now l.initial.parents l.initial.work l.parents l.work l.m
