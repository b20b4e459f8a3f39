-- Proves that `begin` files every column: in cleared work none is filed, and each turn files one more under its first pattern row.
-- Assumes nothing.
use Rattle.rows_needed.proofs.RowLoop.{FiledTo}
use Rattle.rows_needed.proofs.begin.Given as goal

abbrev pub invariant-loop-m : goal.invariant-loop-m
invariant-loop-m l = FiledTo l.n l.m l.pattern.starts.now l.pattern.rows.now l.initial.work l.work
