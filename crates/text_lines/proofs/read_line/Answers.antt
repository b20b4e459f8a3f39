-- Proves that `read_line` reads a line of rows: its count comes first. A count alone on the line must be 0; else as many rows must follow, or the
-- line is bad.
-- Assumes nothing.
use Rattle.text_lines.proofs.Rows.{line-bad, line-alone, line-lacks, line-no-rows, line-rows, line-differs}
use Rattle.text_lines.proofs.read_line.Goals as goal

pub returns-in_err-said : goal.returns-in_err-said
returns-in_err-said c = rw c.from_residual.ensures (line-bad c.in_err-said.ensures)

pub returns-then-said-ne0 : goal.returns-then-said-ne0
returns-then-said-ne0 c = line-lacks (rw c.if-said.true at c.in_ok-said.ensures) c.if-said-ne0.true

pub returns-then-said : goal.returns-then-said
returns-then-said c = line-alone (rw c.if-said.true at c.in_ok-said.ensures) c.if-said-ne0.false

pub returns-in_err-count : goal.returns-in_err-count
returns-in_err-count c = rw c.from_residual-in_err-count.ensures (line-no-rows (rw c.if-said.false at c.in_ok-said.ensures) c.in_err-count.ensures)

pub returns-then-count-said : goal.returns-then-count-said
returns-then-count-said c = line-differs (rw c.if-said.false at c.in_ok-said.ensures) c.in_ok-count.ensures c.if-count-said.true

pub returns : goal.returns
returns c = line-rows (rw c.if-said.false at c.in_ok-said.ensures) c.in_ok-count.ensures c.if-count-said.false
