-- Proves that `write_list` stores a list, since storing the gaps from i on at next leaves what storing all of them behind the count leaves. A turn
-- writes a run of rows, so fewer rows are left.
-- Assumes nothing.
use Prim.Native.Nat.{◌-◌}
use Rattle.write_gaps.proofs.Rows.{WritesRows}
use Rattle.write_lists.proofs.write_list.Given as goal

abbrev pub invariant-loop-i : goal.invariant-loop-i
invariant-loop-i l = WritesRows l.j l.rows l.from l.to l.initial.bytes l.initial.next l.bytes l.next l.before l.i

abbrev pub decreases-loop-i : goal.decreases-loop-i
decreases-loop-i l = l.to - l.i
