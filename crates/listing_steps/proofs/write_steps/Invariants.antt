-- Proves that `write_steps` writes all lines: after k steps their lines are written, and below holds the sums of the updates then held.
-- Assumes nothing.
use Rattle.listing_steps.proofs.Printing.{Printing}
use Rattle.listing_steps.proofs.write_steps.Given as goal

abbrev pub invariant-loop-k : goal.invariant-loop-k
invariant-loop-k l =
    Printing l.order l.pops l.factor.starts.now l.factor.rows.now l.initial.below l.initial.bytes l.at l.below l.bytes l.depth l.next l.k
