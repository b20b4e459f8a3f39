-- Proves that `read_limit` reads the second number of line 1, the limit: it ends the line, and the mark is the default, or the mark follows it.
-- Assumes nothing.
use Rattle.text_head.proofs.Heads.{head-bad, head-two, head-further}
use Rattle.text_head.proofs.read_limit.Goals as goal

pub returns-in_err-word : goal.returns-in_err-word
returns-in_err-word c = rw c.from_residual.ensures (head-bad c.in_err-word.ensures)

pub returns-then-word : goal.returns-then-word
returns-then-word c = head-two (rw c.if-word.true at c.in_ok-word.ensures) _

pub returns : goal.returns
returns c = head-further (rw c.if-word.false at c.in_ok-word.ensures) _ _ c.read_mark.ensures
