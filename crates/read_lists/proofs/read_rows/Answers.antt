-- Proves that `read_rows` reads all rows: those before place total are read and kept, and those left, put onto them, are the column's.
-- Assumes nothing.
use Prim.Native.Nat.{◌+◌, ◌-◌}
use mathlib.Core.Path.{◌≡◌, sym}
use mir.Facts.{Fits-bits}
use native.Mathlib.Omega.{arith}
use Rattle.std.proofs.lemmas.Result.{err_from_is_err_and}
use Rattle.read_fields.proofs.Answers.{field_found}
use Rattle.read_rows.proofs.Rows.{rows_start, rows-one, rows_both, row-narrow}
use Rattle.read_lists.proofs.Lists.{rows-fault, rows-stop}
use Rattle.read_lists.proofs.read_rows.Goals as goal

pub loop-i-init : goal.loop-i-init
loop-i-init c =
    let all : c.args.count - 0 ≡ c.args.count = omega arith in
    rw all (rows_start _ _ _ _ _ _ _ c.requires.inside c.requires.column)

pub returns-in_err-gap : goal.returns-in_err-gap
returns-in_err-gap c =
    let p = err_from_is_err_and c.from_residual.result c.from_residual.ensures.1 in
    rw (p.1, p.2) (rows-fault c.loop-i.invariant (omega (arith, c.loop-i-test.true)) (sym c.in_err-gap.ensures))

pub overflow_add-row : goal.overflow_add-row
overflow_add-row c = Fits-bits 32 tt (row-narrow c.requires.few c.loop-i.invariant.high (field_found c.in_ok-gap.ensures).high)

pub keep_row-requires : goal.keep_row-requires
keep_row-requires c = row-narrow c.requires.few c.loop-i.invariant.high (field_found c.in_ok-gap.ensures).high

pub loop-i-preserved : goal.loop-i-preserved
loop-i-preserved c =
    let x = c.loop-i.invariant in
    let next : c.args.count - (c.loop-i._i + 1) ≡ c.args.count - c.loop-i._i - 1 = omega arith in
    rw next
    (rows_both x (rows-one _ _ _ _ _ _ _ (omega (arith, c.loop-i-test.true)) x.high (sym c.in_ok-gap.ensures) c.keep_row.ensures))

pub returns : goal.returns
returns c = rows-stop c.loop-i.invariant (omega (arith, c.loop-i-test.false))
