-- Proves that `read_head` reads n, then the rest of line 1: a line that ends there, or does not begin with a number, is bad.
-- Assumes nothing.
use Rattle.text_head.proofs.Heads.{head-bad, head-one, head-further}
use Rattle.text_head.proofs.read_head.Goals as goal

pub returns-in_err-word : goal.returns-in_err-word
returns-in_err-word c = rw c.from_residual.ensures (head-bad c.in_err-word.ensures)

pub returns-then-word : goal.returns-then-word
returns-then-word c = head-one (rw c.if-word.true at c.in_ok-word.ensures)

pub returns : goal.returns
returns c = head-further (rw c.if-word.false at c.in_ok-word.ensures) _ _ c.read_limit.ensures
