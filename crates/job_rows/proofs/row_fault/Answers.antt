-- Proves that `row_fault` answers what `fault_of_row` defines, since it makes the same tests in the same order.
-- Assumes nothing.
use Rattle.std.proofs.Common.{sym, arith}
use Rattle.job_laws.proofs.Rows.{row_low, row-over, row-falls, row_fine}
use Rattle.job_rows.proofs.row_fault.Goals as goal
use Rattle.job_rows.proofs.row_fault.Goals.{then-row-j-via-then-row-j, then-row-j-via-else-row-j+then-n-row}

pub returns-then-row-j : goal.returns-then-row-j
returns-then-row-j c =
    elim c.then-row-j.branch [
      | then-row-j-via-then-row-j w ↦ sym (row_low _ _ _ _ w.if-row-j.true)
      | then-row-j-via-else-row-j+then-n-row w ↦ sym (row-over _ _ _ _ w.if-row-j.false w.if-n-row.true)
    ]

pub returns-then-row-before : goal.returns-then-row-before
returns-then-row-before c =
    let a = c.args in
    sym (row-falls a.n a.j a.before a.row c.if-row-j.false c.if-n-row.false (omega arith))

pub returns : goal.returns
returns c =
    let a = c.args in
    sym (row_fine a.n a.j a.before a.row c.if-row-j.false c.if-n-row.false (omega arith))
