-- Proves that `count_rows` counts the rows of all lists: it is the loop that keeps lists, with empty slices, in which no store changes anything.
-- Assumes nothing.
use mathlib.Core.List.{[]}
use mathlib.Core.Path.{refl}
use native.Mathlib.Omega.{arith}
use Rattle.read_plan.proofs.Lists.{lists-start, lists-turn, lists-fault, lists-stop}
use Rattle.read_key.proofs.Wholes.{found-alone}
use Rattle.read_key.proofs.count_rows.Goals as goal

pub loop-j-init : goal.loop-j-init
loop-j-init c = lists-start _ _ _ [] _ c.requires.inside

pub returns-in-Err : goal.returns-in-Err
returns-in-Err c = lists-fault c.loop-j.invariant c.loop-j-test.true c.in-Err.ensures

pub loop-j-preserved : goal.loop-j-preserved
loop-j-preserved c = lists-turn c.loop-j.invariant c.loop-j-test.true c.in-Ok.ensures refl

pub returns : goal.returns
returns c = found-alone (lists-stop c.loop-j.invariant [] refl c.loop-j-test.false)

pub returns-in-Ok : goal.returns-in-Ok
returns-in-Ok c =
    found-alone (lists-stop (lists-turn c.loop-j.invariant c.loop-j-test.true c.in-Ok.ensures refl) [] refl (omega arith))
