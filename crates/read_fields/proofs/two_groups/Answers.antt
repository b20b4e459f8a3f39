-- Proves that `two_groups` reads a number of two groups: a byte of 128 or more, then a byte from 1 to 127.
-- Assumes nothing.
use native.Mathlib.Omega.{arith}
use Rattle.read_fields.proofs.Answers.{two-groups}
use Rattle.read_fields.proofs.two_groups.Goals as goal

pub returns : goal.returns
returns c =
    let some = c.if-next-eq0.false in
    let last = c.if-next-gt127.false in
    let more = c.if-low-lt128.false in
    let there = c.if-plan-at-lt2.false in
    let inside = c.requires in
    (omega arith, two-groups _ _ (omega arith) c.from-low.ensures more c.from-next.ensures some (omega arith))
