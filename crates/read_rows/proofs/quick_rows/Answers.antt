-- Proves that `quick_rows` reads the rows: those before place total are read and kept, and the rest, put onto them, are the column's, as in
-- read_rows. Each turn leaves fewer rows.
-- Assumes nothing.
use Prim.Native.Nat.{◌+◌, ◌-◌}
use mathlib.Core.Path.{refl}
use native.Mathlib.Nat.{pos_of_ne-zero}
use Rattle.read_fields.proofs.Places.{none_left}
use Rattle.read_rows.specs.Rows.{RowsRead}
use Rattle.read_rows.proofs.Rows.{rows_start, rows_both}
use Rattle.read_rows.proofs.Quick.{quick-turn, quick-over, quick-stop, quick-part}
use Rattle.read_rows.proofs.quick_rows.Goals as goal
use Rattle.read_rows.proofs.quick_rows.Goals.{Else-n-last}

-- the rows of a run of short gaps are read and kept behind those before
after-run : (c : Else-n-last) → let (read, last) = c.short_rows-read.result in
    RowsRead c.args.n c.args.plan.now c.args.j c.args.count c.args.at c.args.t c.args.rows.now c.short_rows-read.new.rows (c.loop-rest.k + read) last
    (c.loop-rest.rest - read) (c.loop-rest.total + read)
after-run c = rows_both c.loop-rest.invariant (c.short_rows-read.ensures.read _ c.if-n-last.false)

pub loop-rest-init : goal.loop-rest-init
loop-rest-init c = rows_start _ _ _ _ _ _ _ c.requires.inside c.requires.column

pub returns-then-n-last : goal.returns-then-n-last
returns-then-n-last c = quick-over c.loop-rest.invariant c.short_rows-read.ensures

pub returns-then-n-row : goal.returns-then-n-row
returns-then-n-row c =
    quick-part (after-run (goal.at.returns-then-n-row c).Else-n-last)

pub returns-in_err-gap : goal.returns-in_err-gap
returns-in_err-gap c =
    rw c.from_residual.ensures (quick-part (after-run (goal.at.returns-in_err-gap c).Else-n-last))

pub loop-rest-preserved : goal.loop-rest-preserved
loop-rest-preserved c =
    quick-turn (after-run (goal.at.loop-rest-preserved c).Else-n-last) c.in_ok-gap.ensures c.if-n-row.false
    (pos_of_ne-zero c.if-rest-eq0.false) refl

pub returns-after-loop-rest : goal.returns-after-loop-rest
returns-after-loop-rest c = quick-stop c.loop-rest.invariant (none_left c.loop-rest-test.false)

pub returns-then-rest-eq0 : goal.returns-then-rest-eq0
returns-then-rest-eq0 c =
    quick-stop (after-run (goal.at.returns-then-rest-eq0 c).Else-n-last) c.if-rest-eq0.true
