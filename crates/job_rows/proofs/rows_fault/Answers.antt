-- Proves that `rows_fault` finds the first row at fault: neither the columns passed nor the rows passed have a fault, so the next fault found is the
-- first, and if none is found there is none.
-- Assumes nothing.
use Rattle.std.proofs.Common.{refl, ap, ◌∙◌, arith}
use Rattle.refusals.specs.Answers.{verdict_from}
use Rattle.refusals.proofs.Numbered.{numbered}
use Rattle.job_rows.proofs.Reading.{rows-end, row-found, row-next, columns-begin, columns-end, starts-long, starts-rise, rows-within, column-next, column-found}
use Rattle.job_rows.proofs.rows_fault.Goals as goal

pub columns-init : goal.columns-init
columns-init c = (refl, columns-begin _ _ _)

pub bounds-starts-done : goal.bounds-starts-done
bounds-starts-done c = omega (arith, starts-long c.requires)

pub bounds-starts-done-in-columns : goal.bounds-starts-done-in-columns
bounds-starts-done-in-columns c = omega (arith, starts-long c.requires)

pub offset_bounds-rows-starts : goal.offset_bounds-rows-starts
offset_bounds-rows-starts c = omega (arith, starts-rise c.requires c.columns-test.true, rows-within c.requires c.columns-test.true)

pub slice_bounds-column-count : goal.slice_bounds-column-count
slice_bounds-column-count c = starts-rise c.requires c.columns-test.true

pub slice_bounds-column-start : goal.slice_bounds-column-start
slice_bounds-column-start c = omega (arith, starts-rise c.requires c.columns-test.true, rows-within c.requires c.columns-test.true)

pub slice_bounds-column-end : goal.slice_bounds-column-end
slice_bounds-column-end c = omega (arith, starts-rise c.requires c.columns-test.true, rows-within c.requires c.columns-test.true)

pub loop-row-preserved : goal.loop-row-preserved
loop-row-preserved c =
    (c.loop-row.invariant.0, row-next c.loop-row.invariant.1 c.from-row.ensures c.loop-row-test.true c.in_default.ensures)

pub columns-preserved : goal.columns-preserved
columns-preserved c = (
  c.loop-row.invariant.0,
  column-next c.columns.invariant.1 (starts-rise c.requires c.columns-test.true)
      (rows-end c.loop-row.invariant.1 c.loop-row-test.false) refl,
)

pub returns-after-columns : goal.returns-after-columns
returns-after-columns c =
    ap verdict_from c.columns.invariant.0
    ∙ columns-end c.columns.invariant.1 (omega (arith, c.columns-test.false, c.columns.auto.done-end))

pub returns-in-Err : goal.returns-in-Err
returns-in-Err c =
    rw c.refuse-verdict.ensures (column-found c.columns.invariant.1 (starts-rise c.requires c.columns-test.true)
    (row-found c.loop-row.invariant.1 c.from-row.ensures c.loop-row-test.true (numbered _) c.in-Err.ensures) c.columns-test.true (numbered _))
