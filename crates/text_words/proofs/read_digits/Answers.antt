-- Proves that `read_digits` reads the digits: the first i bytes are digits, and value is what they make.
-- Assumes nothing.
use Rattle.std.proofs.Common.{arith}
use Rattle.text_words.proofs.Scan.{part_byte, digits-start, digits-fit, digits-turn}
use Rattle.text_words.proofs.read_digits.Goals as goal

pub loop-i-init : goal.loop-i-init
loop-i-init c = digits-start _ _ c.requires

pub overflow_mul-value : goal.overflow_mul-value
overflow_mul-value c = let fit = digits-fit _ _ c.loop-i.invariant (omega arith) in omega arith

pub overflow_add-value : goal.overflow_add-value
overflow_add-value c =
    let fit = digits-fit _ _ c.loop-i.invariant (omega arith) in
    let same = c.from.ensures in
    let digit = c.if-not-is_ascii_digit.ensures.cases in omega arith

pub loop-i-preserved : goal.loop-i-preserved
loop-i-preserved c =
    let byte = part_byte c.args.text.now c.args.at c.min-most.result c.loop-i.i (omega arith) in
    rw c.from.ensures (digits-turn _ _ c.loop-i.invariant (omega arith) (omega arith) byte c.if-not-is_ascii_digit.ensures.cases)
