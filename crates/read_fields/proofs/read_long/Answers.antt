-- Proves that `read_long` reads a field: read_number reads its number, and the range is tested after it.
-- Assumes nothing.
use native.Mathlib.Omega.{arith}
use Rattle.read_fields.proofs.Answers.{ended-is-12, too-long-is-13, not-shortest-is-13, field-by-number}
use Rattle.read_fields.proofs.read_long.Goals as goal

pub returns-in-Ok : goal.returns-in-Ok
returns-in-Ok c = field-by-number _ _ _ _ c.in-Ok.ensures c.in_range.ensures

pub returns-in-Err-Ended : goal.returns-in-Err-Ended
returns-in-Err-Ended c =
    let refused = field-by-number c.args.low c.args.high _ _ (rw c.in-Err-Ended.field-0-is at c.in-Err-Ended.ensures) (ended-is-12 _ _ _) in
    grind arith

pub returns-in-Err-TooLong : goal.returns-in-Err-TooLong
returns-in-Err-TooLong c =
    let refused = field-by-number c.args.low c.args.high _ _ (rw c.in-Err-TooLong.field-0-is at c.in-Err-TooLong.ensures) (too-long-is-13 _ _ _) in
    grind arith

pub returns-in-Err-NotShortest : goal.returns-in-Err-NotShortest
returns-in-Err-NotShortest c =
    let refused = field-by-number c.args.low c.args.high _ _ (rw c.in-Err-NotShortest.field-0-is at c.in-Err-NotShortest.ensures) (not-shortest-is-13 _ _ _) in
    grind arith
