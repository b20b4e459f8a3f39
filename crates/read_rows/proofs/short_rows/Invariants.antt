-- Proves that `short_rows` reads rows with gaps of one byte: i bytes give i rows, which are kept, and all are in range if the last is. Each turn
-- reads one gap and leaves one less.
-- Assumes nothing.
use Rattle.read_rows.specs.Rows.{ShortRead}
use Rattle.read_rows.proofs.short_rows.Given as goal

abbrev pub invariant-loop-i : goal.invariant-loop-i
invariant-loop-i l = ShortRead l.plan l.b l.left l.at l.t l.initial.rows l.rows l.i l.last
