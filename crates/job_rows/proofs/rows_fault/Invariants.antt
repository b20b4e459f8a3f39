-- Proves that `rows_fault` finds the first row at fault: neither the columns passed nor the rows passed have a fault, so the next fault found is the
-- first, and if none is found there is none.
-- Assumes nothing.
use Rattle.std.proofs.Common.{◌≡◌, Ok}
use Rattle.job_rows.proofs.Reading.{RowsRead, ColumnsRead}
use Rattle.job_rows.proofs.rows_fault.Given as goal

abbrev pub invariant-columns : goal.invariant-columns
invariant-columns l = (l.verdict ≡ Ok tt) × ColumnsRead l.n l.starts l.rows l.done

abbrev pub invariant-loop-row : goal.invariant-loop-row
invariant-loop-row l = (l.verdict ≡ Ok tt) × RowsRead l.n l.j l.column l.before l.row-index
