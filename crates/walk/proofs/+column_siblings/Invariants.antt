-- Proves the two tasks, which call each other: each relies on the other's contract for fewer columns. A call for a column's children leaves out that
-- column, and a call for one of two siblings leaves out the other's columns. In the column's task the steps written, with the block that is left
-- stored on top, are the whole at every turn; in the siblings' task the steps written, with the block kept and the blocks of the siblings to come.
-- Assumes nothing.
use Rattle.std.proofs.Common.{◌+◌, ◌-◌}
use Rattle.walk.proofs.Down.{Down}
use Rattle.walk.proofs.OneKept.{OneKept}
use Rattle.walk.proofs.+column_siblings.Given as goal

-- the columns left
abbrev pub decreases-column : goal.decreases-column
decreases-column l = l.left

abbrev pub decreases-siblings : goal.decreases-siblings
decreases-siblings l = l.left

abbrev pub invariant-column-loop-b : goal.invariant-column-loop-b
invariant-column-loop-b l =
    Down l.starts l.list l.counts l.j l.left l.initial.order l.at l.order l.b.column l.b.size l.b.at

-- the columns of the block that is left
abbrev pub decreases-column-loop-b : goal.decreases-column-loop-b
decreases-column-loop-b l = l.b.size

abbrev pub invariant-siblings-loop-a : goal.invariant-siblings-loop-a
invariant-siblings-loop-a l =
    OneKept l.starts l.list l.counts l.j l.left l.initial.order l.at l.order l.i l.a l.kept.column l.kept.size l.kept.at

-- the steps of the siblings to come
abbrev pub decreases-siblings-loop-a : goal.decreases-siblings-loop-a
decreases-siblings-loop-a l = l.at + l.left - l.a
