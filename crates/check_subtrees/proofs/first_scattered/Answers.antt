-- Proves that `first_scattered` finds the first scattered subtree: the two parts of work come back one after the other, and the columns are judged by
-- them.
-- Assumes nothing.
use native.Mathlib.Omega.{arith}
use Rattle.check_subtrees.proofs.Whole.{stray-asked, stray-found}
use Rattle.check_subtrees.proofs.first_scattered.Goals as goal

pub first_stray-requires : goal.first_stray-requires
first_stray-requires c =
    let write-steps = c.write_steps in
    let count-descendants = c.count_descendants in
    stray-asked c.requires write-steps.ensures count-descendants.ensures (omega arith)
    (omega arith)

pub returns : goal.returns
returns c =
    let write-steps = c.write_steps in
    let count-descendants = c.count_descendants in
    stray-found c.requires write-steps.ensures count-descendants.ensures (omega arith)
    (omega arith) c.first_stray.ensures
