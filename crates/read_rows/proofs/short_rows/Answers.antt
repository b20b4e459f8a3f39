-- Proves that `short_rows` reads rows with gaps of one byte: i bytes give i rows, which are kept, and all are in range if the last is. Each turn
-- reads one gap and leaves one less.
-- Assumes nothing.
use Rattle.std.proofs.Common.{arith, refl, ◌<◌, ◌∙◌}
use native.Mathlib.Nat.{lt_of_lt_of_le, pos_of_ne-zero}
use Rattle.read_fields.proofs.Places.{before-end}
use Rattle.read_rows.proofs.Short.{part_byte, short-start, short-gap, short-turn}
use Rattle.read_rows.proofs.short_rows.Goals as goal

pub loop-i-init : goal.loop-i-init
loop-i-init c = short-start _ _ _ _ _ _ c.requires.inside

pub loop-i-preserved : goal.loop-i-preserved
loop-i-preserved c =
    let most = c.most_short-most.ensures in
    let next : c.loop-i.i < c.most_short-most.result = omega arith in
    let byte = part_byte c.args.plan.now c.args.at c.most_short-most.result c.loop-i.i next in
    short-turn c.loop-i.invariant (lt_of_lt_of_le next most.wanted) (before-end _ next most.there) (c.from-gap.ensures ∙ byte)
    (pos_of_ne-zero c.if-gap-eq0.false) (short-gap c.if-gap-gt127.false) refl
