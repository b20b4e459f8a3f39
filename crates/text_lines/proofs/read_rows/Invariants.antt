-- Proves that `read_rows` reads the rows: the numbers before k are read and kept, and the rest of the line completes them. Each turn leaves less
-- text.
-- Assumes nothing.
use Prim.Native.Nat.{◌-◌}
use lib.ListN.{length}
use Rattle.text_lines.proofs.Rows.{RowsRead}
use Rattle.text_lines.proofs.read_rows.Given as goal

abbrev pub invariant-loop-k : goal.invariant-loop-k
invariant-loop-k l = RowsRead l.text l.at l.t l.initial.rows l.rows l.k l.count

abbrev pub decreases-loop-k : goal.decreases-loop-k
decreases-loop-k l = length l.text - l.k
