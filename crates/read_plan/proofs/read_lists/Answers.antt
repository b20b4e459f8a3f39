-- Proves that `read_lists` reads all lists: those of the columns before j are read and kept, and those left, put onto them, are all.
-- Assumes nothing.
use mathlib.Core.Path.{refl}
use native.Mathlib.Omega.{arith}
use Rattle.std.proofs.lemmas.Result.{err_from_is_err_and}
use Rattle.read_plan.proofs.Lists.{lists-start, lists-turn, lists-fault, lists-stop}
use Rattle.read_plan.proofs.read_lists.Goals as goal

pub loop-j-init : goal.loop-j-init
loop-j-init c = lists-start _ _ _ c.args.starts.now _ c.requires.inside

pub returns-in_err-kept : goal.returns-in_err-kept
returns-in_err-kept c =
    let p = err_from_is_err_and c.from_residual.result c.from_residual.ensures.1 in
    rw (p.1, p.2) (lists-fault c.loop-j.invariant c.loop-j-test.true c.in_err-kept.ensures)

pub loop-j-preserved : goal.loop-j-preserved
loop-j-preserved c = lists-turn c.loop-j.invariant c.loop-j-test.true c.in_ok-kept.ensures refl

pub returns : goal.returns
returns c = lists-stop c.loop-j.invariant c.args.starts.now refl c.loop-j-test.false

pub returns-in_ok-kept : goal.returns-in_ok-kept
returns-in_ok-kept c =
    lists-stop (lists-turn c.loop-j.invariant c.loop-j-test.true c.in_ok-kept.ensures refl) c.args.starts.now refl (omega arith)
