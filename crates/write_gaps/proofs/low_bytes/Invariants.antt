-- Proves that `low_bytes` stores the low byte of each gap: those before i are stored up to next, and widest is the greatest of these gaps.
-- Assumes nothing.
use Rattle.write_gaps.proofs.Lows.{Lows}
use Rattle.write_gaps.proofs.low_bytes.Given as goal

abbrev pub invariant-loop-i : goal.invariant-loop-i
invariant-loop-i l = Lows l.b l.rows l.from l.to l.initial.bytes l.at l.bytes l.widest l.before l.next l.i
