-- Proves that `write_rows` writes all numbers, since storing those from the row on at next leaves what storing all of them leaves.
-- Assumes nothing.
use Rattle.listing_lines.proofs.Lines.{Listed}
use Rattle.listing_lines.proofs.write_rows.Given as goal

abbrev pub invariant-loop-row : goal.invariant-loop-row
invariant-loop-row l = Listed l.rows l.initial.bytes l.at l.bytes l.next l.row-index
