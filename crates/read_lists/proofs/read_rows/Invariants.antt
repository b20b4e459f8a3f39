-- Proves that `read_rows` reads all rows: those before place total are read and kept, and those left, put onto them, are the column's.
-- Assumes nothing.
use Prim.Native.Nat.{◌-◌}
use Rattle.read_rows.specs.Rows.{RowsRead}
use Rattle.read_lists.proofs.read_rows.Given as goal

abbrev pub invariant-loop-i : goal.invariant-loop-i
invariant-loop-i l = RowsRead l.n l.plan l.j l.count l.at l.t l.initial.rows l.rows l.k l.row (l.count - l._i) l.total
