-- Proves that `write_gaps` stores all gaps, since storing the gaps from i on at next leaves what storing all of them leaves.
-- Assumes nothing.
use Rattle.write_gaps.proofs.Rows.{WritesRows}
use Rattle.write_gaps.proofs.write_gaps.Given as goal

abbrev pub invariant-loop-i : goal.invariant-loop-i
invariant-loop-i l = WritesRows l.b l.rows l.from l.to l.initial.bytes l.at l.bytes l.next l.before l.i
