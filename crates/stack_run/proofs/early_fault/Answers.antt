-- Proves that `early_fault` answers the first test that refuses: it makes the tests in their order, and those before it pass.
-- Assumes nothing.
use Rattle.refusals.proofs.Passed.{handed-on}
use Rattle.stack_run.proofs.Outcomes.{run-many, run-starts, run-rows, run_short, run-passes}
use Rattle.stack_run.proofs.early_fault.Goals as goal

pub returns-then-n-gt-MAX_COLUMNS : goal.returns-then-n-gt-MAX_COLUMNS
returns-then-n-gt-MAX_COLUMNS c = λ room. rw c.refuse.ensures (run-many _ c.if-n-gt-MAX_COLUMNS.true)

pub returns-in_err-starts_fault : goal.returns-in_err-starts_fault
returns-in_err-starts_fault c = λ room.
    rw (handed-on c.from_residual.result c.from_residual.ensures.1) (run-starts _ c.if-n-gt-MAX_COLUMNS.false c.in_err-starts_fault.ensures)

pub returns-in_err-rows_fault : goal.returns-in_err-rows_fault
returns-in_err-rows_fault c = λ room.
    rw (handed-on c.from_residual-in_err-rows_fault.result c.from_residual-in_err-rows_fault.ensures.1)
    (run-rows _ c.if-n-gt-MAX_COLUMNS.false c.in_ok-starts_fault.ensures c.in_err-rows_fault.ensures)

pub returns-then-too_short : goal.returns-then-too_short
returns-then-too_short c = λ room.
    rw c.refuse-then-too_short.ensures
    (run_short _ c.if-n-gt-MAX_COLUMNS.false c.in_ok-starts_fault.ensures c.in_ok-rows_fault.ensures c.too_short.ensures c.if-too_short.true)

pub returns : goal.returns
returns c = λ room.
    run-passes _ c.if-n-gt-MAX_COLUMNS.false c.in_ok-starts_fault.ensures c.in_ok-rows_fault.ensures c.too_short.ensures c.if-too_short.false
