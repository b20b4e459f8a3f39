-- Proves that `quick_rows` reads the rows: those before place total are read and kept, and the rest, put onto them, are the column's, as in
-- read_rows. Each turn leaves fewer rows.
-- Assumes nothing.
use Rattle.read_rows.specs.Rows.{RowsRead}
use Rattle.read_rows.proofs.quick_rows.Given as goal

abbrev pub invariant-loop-rest : goal.invariant-loop-rest
invariant-loop-rest l = RowsRead l.n l.plan l.j l.count l.at l.t l.initial.rows l.rows l.k l.row l.rest l.total

abbrev pub decreases-loop-rest : goal.decreases-loop-rest
decreases-loop-rest l = l.rest
