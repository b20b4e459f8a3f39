-- Proves that `rows_needed` counts all rows: before row m + 1 the rows up to m are counted, and the walk over a row's columns counts that row.
-- Assumes nothing.
use native.Mathlib.Omega.{arith}
use Rattle.rows_needed.proofs.RowLoop.{rows-first, rows-open, rows-close, rows_last}
use Rattle.rows_needed.proofs.rows_needed.Goals as goal

pub loop-m-init : goal.loop-m-init
loop-m-init c = rows-first c.requires (c.fill.ensures.after (λ y e. e)) c.begin.ensures

pub walk-t-requires : goal.walk-t-requires
walk-t-requires c = rows-open c.loop-m.invariant c.loop-m-test.true

pub loop-m-preserved : goal.loop-m-preserved
loop-m-preserved c =
    rows-close c.loop-m.invariant c.walk-t.ensures (omega arith)
    (omega arith)

pub returns : goal.returns
returns c = rows_last c.loop-m.invariant c.loop-m-test.false
