-- Proves that `read_peak` reads the peak as a field, and answers 15 at the first byte behind it if the plan does not end there.
-- Assumes nothing.
use mathlib.Core.Path.{sym}
use native.Mathlib.Omega.{arith}
use Rattle.std.proofs.lemmas.Result.{err_from_is_err_and}
use Rattle.read_plan.proofs.Wholes.{no-peak, bytes_after, at-the-end}
use Rattle.read_plan.proofs.read_peak.Goals as goal

pub returns-in_err-peak : goal.returns-in_err-peak
returns-in_err-peak c =
    let p = err_from_is_err_and c.from_residual.result c.from_residual.ensures.1 in
    rw (p.1, p.2) (no-peak _ _ (sym c.in_err-peak.ensures))

pub returns-then-next-plan : goal.returns-then-next-plan
returns-then-next-plan c =
    let refused = bytes_after _ _ (sym c.in_ok-peak.ensures) c.if-next-plan.true in
    grind arith

pub returns : goal.returns
returns c = (_, at-the-end _ _ (sym c.in_ok-peak.ensures) c.if-next-plan.false)
