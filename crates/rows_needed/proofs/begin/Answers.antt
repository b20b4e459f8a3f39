-- Proves that `begin` files every column: in cleared work none is filed, and each turn files one more under its first pattern row.
-- Assumes nothing.
use native.Mathlib.Omega.{arith}
use Rattle.column_laws.proofs.Columns.{starts-long}
use Rattle.rows_needed.proofs.RowLoop.{filing-first, file-next}
use Rattle.rows_needed.proofs.begin.Goals as goal

pub bounds-pattern-m : goal.bounds-pattern-m
bounds-pattern-m c = omega (arith, starts-long c.loop-m.invariant.tested, c.loop-m-test.true)

pub file-requires : goal.file-requires
file-requires c = filing-first c.loop-m.invariant c.loop-m-test.true

pub loop-m-preserved : goal.loop-m-preserved
loop-m-preserved c =
    file-next c.loop-m.invariant c.loop-m-test.true c.file.ensures
    (omega arith)
