-- Proves that `column_lists` makes the lists, starts and parents: after m columns the slices hold theirs, so the next list can be gathered, and
-- stored if it fits.
-- Assumes nothing.
use Rattle.structure.proofs.Running.{Running}
use Rattle.structure.proofs.column_lists.Given as goal

abbrev pub invariant-loop-m : goal.invariant-loop-m
invariant-loop-m l =
    Running l.n l.pattern.starts.now l.pattern.rows.now l.initial.parents l.initial.fstarts l.initial.frows l.initial.work l.initial.x l.initial.y
    l.parents l.fstarts l.frows l.work l.x l.y l.m
