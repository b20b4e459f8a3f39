-- Proves that `read_lines` reads the lines of rows: those of the first j columns are read and have no fault, and the rest of the text begins with the
-- next.
-- Assumes nothing.
use Rattle.std.proofs.Common.{rules, refl, ◌≡◌, ◌+◌, Err}
use Rattle.refusals.specs.declared.Refusal.TheVariants.{BadText}
use Rattle.text_rows.proofs.LinesRead.{lines_start, all-first, lines-bad, lines-over, lines-turn, lines_left, lines-done}
use Rattle.text_rows.proofs.read_lines.Goals as goal

pub loop-j-init : goal.loop-j-init
loop-j-init c = lines_start _ _ c.args.starts.now _ c.requires.begins

pub returns-in_err-count : goal.returns-in_err-count
returns-in_err-count c =
    let e : c.from_residual.result ≡ Err (record { refusal = BadText; place = c.loop-j.j + 2 }) = search rules in
    rw e (lines-bad c.loop-j.invariant c.requires.size c.loop-j-test.true (rw c.in_err-count.ensures.ok_part at c.read_line.ensures))

pub returns-then-total-gt-PATTERN_ROWS : goal.returns-then-total-gt-PATTERN_ROWS
returns-then-total-gt-PATTERN_ROWS c =
    rw c.fault_at_line.ensures (lines-over c.loop-j.invariant (rw c.in_ok-count.ensures.ok_part at c.read_line.ensures) c.requires.size
    c.loop-j-test.true c.if-total-gt-PATTERN_ROWS.true)

pub loop-j-preserved : goal.loop-j-preserved
loop-j-preserved c =
    lines-turn c.loop-j.invariant (rw c.in_ok-count.ensures.ok_part at c.read_line.ensures) c.loop-j-test.true
    c.if-total-gt-PATTERN_ROWS.false refl

pub returns-then-k-text : goal.returns-then-k-text
returns-then-k-text c =
    rw c.fault_at_line-then-k-text.ensures (lines_left c.loop-j.invariant c.requires.size c.loop-j-test.false c.if-k-text.true)

pub returns : goal.returns
returns c = all-first (lines-done c.loop-j.invariant c.requires.size c.loop-j-test.false c.if-k-text.false)
