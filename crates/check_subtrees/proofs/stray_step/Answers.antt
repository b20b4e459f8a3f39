-- Proves that `stray_step` answers by the definition, a case for each way out. Steps and counts are no greater than the number of columns, so every
-- sum fits.
-- Assumes nothing.
use Rattle.check_subtrees.proofs.Placing.{root-judged, late-judged, early-judged, none-judged, Fitting, sums-fit}
use Rattle.check_subtrees.proofs.stray_step.Goals as goal
use Rattle.check_subtrees.proofs.stray_step.Goals.{Else-p-eq0, else-own-top-via-then-own-top+else-top-below, else-own-top-via-else-own-top}

-- the parent's places are within the slices, and every sum fits
fitting : (c : Else-p-eq0)
    → Fitting c.args.parents.now c.args.steps.now c.args.below.now c.args.i
fitting c = sums-fit _ _ _ _ c.requires c.if-p-eq0.false

pub returns-then-p-eq0 : goal.returns-then-p-eq0
returns-then-p-eq0 c = root-judged _ c.args.steps.now c.args.below.now _ c.if-p-eq0.true

pub bounds-steps-p : goal.bounds-steps-p
bounds-steps-p c = (fitting (goal.at.bounds-steps-p c).Else-p-eq0).step

pub returns-then-top-below : goal.returns-then-top-below
returns-then-top-below c =
    let args = c.args in
    none-judged _ args.steps.now args.below.now _ c.if-p-eq0.false c.if-own-top.true c.if-top-below.true

pub returns : goal.returns
returns c =
    let args = c.args in
    elim c.else-own-top.branch [
      | else-own-top-via-then-own-top+else-top-below w ↦
          early-judged _ args.steps.now args.below.now _ c.requires c.if-p-eq0.false w.if-own-top.true w.if-top-below.false
      | else-own-top-via-else-own-top w ↦ late-judged _ args.steps.now args.below.now _ c.requires c.if-p-eq0.false w.if-own-top.false
    ]
