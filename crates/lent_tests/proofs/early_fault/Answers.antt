-- Proves that `early_fault` answers 1 to 7 in their order: the fault of the job; or 7 for a short slice; or none.
-- Assumes nothing.
use Rattle.std.proofs.Common.{sym, ◌∙◌, arith}
use Rattle.refusals.proofs.Passed.{handed-on}
use Rattle.job_laws.proofs.Passed.{passes-iff}
use Rattle.lent_tests.proofs.Early.{early-job, early-short, early-none}
use Rattle.lent_tests.proofs.early_fault.Goals as goal

pub returns-in_err-first_fault : goal.returns-in_err-first_fault
returns-in_err-first_fault c =
    rw (handed-on c.from_residual.result c.from_residual.ensures.1) (early-job _ c.in_err-first_fault.ensures)

pub too_short-requires : goal.too_short-requires
too_short-requires c = ((passes-iff _).0 (sym c.in_ok-first_fault.ensures)).few

pub returns-then-too_short : goal.returns-then-too_short
returns-then-too_short c =
    let short = early-short _ c.in_ok-first_fault.ensures (sym c.too_short.ensures ∙ c.if-too_short.true) in
    grind arith

pub returns : goal.returns
returns c = early-none _ c.in_ok-first_fault.ensures (sym c.too_short.ensures ∙ c.if-too_short.false)
