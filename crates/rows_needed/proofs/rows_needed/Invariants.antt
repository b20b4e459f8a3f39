-- Proves that `rows_needed` counts all rows: before row m + 1 the rows up to m are counted, and the walk over a row's columns counts that row.
-- Assumes nothing.
use Rattle.rows_needed.proofs.RowLoop.{Rows}
use Rattle.rows_needed.proofs.rows_needed.Given as goal

abbrev pub invariant-loop-m : goal.invariant-loop-m
invariant-loop-m l = Rows l.n l.m l.pattern.starts.now l.pattern.rows.now l.initial.parents l.initial.work l.parents l.work l.t
