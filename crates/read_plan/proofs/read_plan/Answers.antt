-- Proves that `read_plan` reads the steps, the lists, the peak and the end: the first part at fault is the plan's fault, and each part that is read
-- is kept.
-- Assumes nothing.
use Rattle.std.proofs.lemmas.Result.{err_from_is_err_and}
use Rattle.read_plan.proofs.Wholes.{no_steps, no-lists, steps-inside, lists-inside, peak-fault, plan-whole}
use Rattle.read_plan.proofs.read_plan.Goals as goal

pub returns-in_err-behind : goal.returns-in_err-behind
returns-in_err-behind c =
    let p = err_from_is_err_and c.from_residual.result c.from_residual.ensures.1 in
    rw (p.1, p.2) (no_steps _ _ _ c.in_err-behind.ensures)

pub read_lists-requires : goal.read_lists-requires
read_lists-requires c =
    let p = c.requires in
    record { inside = steps-inside _ _ _ c.in_ok-behind.ensures p.inside; few = p.few; starts-long = p.starts-long }

pub returns-in_err-total : goal.returns-in_err-total
returns-in_err-total c =
    let p = err_from_is_err_and c.from_residual-in_err-total.result c.from_residual-in_err-total.ensures.1 in
    rw (p.1, p.2) (no-lists _ _ _ c.in_ok-behind.ensures.read c.in_err-total.ensures)

pub read_peak-requires : goal.read_peak-requires
read_peak-requires c = lists-inside _ _ _ c.in_ok-total.ensures (steps-inside _ _ _ c.in_ok-behind.ensures c.requires.inside)

pub returns-in_err-peak : goal.returns-in_err-peak
returns-in_err-peak c =
    let p = err_from_is_err_and c.from_residual-in_err-peak.result c.from_residual-in_err-peak.ensures.1 in
    rw (p.1, p.2) (peak-fault _ _ _ c.in_ok-behind.ensures c.in_ok-total.ensures c.in_err-peak.ensures)

pub returns : goal.returns
returns c = plan-whole _ _ _ c.in_ok-behind.ensures c.in_ok-total.ensures c.in_ok-peak.ensures.1
