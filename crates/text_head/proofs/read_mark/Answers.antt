-- Proves that `read_mark` reads the third number of line 1, the mark, which ends the line: a fourth number is bad.
-- Assumes nothing.
use Rattle.std.proofs.Common.{rules, true, false, ◌≡◌}
use Rattle.text_head.proofs.Heads.{head-bad, head_three, head-four}
use Rattle.text_head.proofs.read_mark.Goals as goal

pub returns-in_err-word : goal.returns-in_err-word
returns-in_err-word c = rw c.from_residual.ensures (head-bad c.in_err-word.ensures)

pub returns-then-not-word : goal.returns-then-not-word
returns-then-not-word c =
    let e : c.in_ok-word.word.ends_line ≡ false = search rules in head-four (rw e at c.in_ok-word.ensures) _ _

pub returns : goal.returns
returns c = let e : c.in_ok-word.word.ends_line ≡ true = search rules in head_three (rw e at c.in_ok-word.ensures) _ _
