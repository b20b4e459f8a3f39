-- Proves that `read_lines` reads the lines of rows: those of the first j columns are read and have no fault, and the rest of the text begins with the
-- next.
-- Assumes nothing.
use Rattle.text_rows.proofs.LinesRead.{LinesRead}
use Rattle.text_rows.proofs.read_lines.Given as goal

abbrev pub invariant-loop-j : goal.invariant-loop-j
invariant-loop-j l = LinesRead l.text l.n l.initial.starts l.initial.rows l.starts l.rows l.j l.total l.k
