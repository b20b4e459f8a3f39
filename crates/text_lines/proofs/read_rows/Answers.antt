-- Proves that `read_rows` reads the rows: the numbers before k are read and kept, and the rest of the line completes them. Each turn leaves less
-- text.
-- Assumes nothing.
use Rattle.text_lines.proofs.Rows.{rows_start, rows-turn, rows_last, rows-bad, rows_out}
use Rattle.text_lines.proofs.read_rows.Goals as goal

pub loop-k-init : goal.loop-k-init
loop-k-init c = rows_start _ _ _ _ c.requires.inside

pub returns-in_err-word : goal.returns-in_err-word
returns-in_err-word c = rw c.from_residual.ensures (rows-bad c.loop-k.invariant c.in_err-word.ensures)

pub returns-then-word : goal.returns-then-word
returns-then-word c = rows_last c.loop-k.invariant (rw c.if-word.true at c.in_ok-word.ensures) c.keep_row.ensures

pub loop-k-preserved : goal.loop-k-preserved
loop-k-preserved c = rows-turn c.loop-k.invariant (rw c.if-word.false at c.in_ok-word.ensures) c.keep_row.ensures

pub returns : goal.returns
returns c = rows_out c.loop-k.invariant c.loop-k-test.false
