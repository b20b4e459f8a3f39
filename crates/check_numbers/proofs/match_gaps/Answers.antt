-- Proves that `match_gaps` compares all gaps: those of the rows before i agree, so the others are compared from k on.
-- Assumes nothing.
use mathlib.Core.Path.{◌∙◌}
use Rattle.write_gaps.proofs.Rows.{gaps-next, rows_next, gaps-none}
use Rattle.refusals.proofs.Passed.{handed-on}
use Rattle.check_numbers.proofs.Numbers.{left-number, differs-number, left-none}
use Rattle.check_numbers.proofs.match_gaps.Goals as goal

pub returns-in_err-k : goal.returns-in_err-k
returns-in_err-k c =
    let gaps = c.loop-i.invariant in
    handed-on _ c.from_residual.ensures.1 ∙ differs-number gaps.found (gaps-next gaps.left c.loop-i-test.true c.from-row.ensures)
    c.match_number.ensures c.in_err-k.was

pub loop-i-preserved : goal.loop-i-preserved
loop-i-preserved c =
    let gaps = c.loop-i.invariant in
    let next = c.loop-i-test.true in
    let row = c.from-row.ensures in
    record {
      left = rows_next gaps.left next row;
      found = left-number gaps.found (gaps-next gaps.left next row) c.match_number.ensures c.in_ok-k.was;
    }

pub returns : goal.returns
returns c =
    let gaps = c.loop-i.invariant in
    left-none gaps.found (gaps-none gaps.left c.loop-i-test.false)
