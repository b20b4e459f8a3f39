-- Proves that `write_plan` answers right: 1 to 7 end it at once, 8 and 9 clear all slices; if the plan is made, storing its bytes beside it gives the
-- outcome.
-- Assumes nothing.
use Rattle.std.proofs.Common.{refl, sym, arith}
use Rattle.refusals.proofs.Numbered.{number-not-zero}
use Rattle.job_laws.proofs.Outcomes.{early-passes-iff}
use Rattle.lent.proofs.Alike.{zeros-alike}
use Rattle.plan_bytes.proofs.Ways.{way-early, early-on, way-refused}
use Rattle.plan_bytes.proofs.Handed.{done-at-start, done-stored}
use Rattle.plan_bytes.proofs.write_plan.Goals as goal

pub returns-in-Err : goal.returns-in-Err
returns-in-Err c = rw c.from.ensures (way-early _ _ c.in-Err.ensures)

pub planned-requires : goal.planned-requires
planned-requires c =
    let (passes, long) = (early-passes-iff _).0 (sym c.in_default.ensures) in
    record { passes = passes; long = long }

pub returns-in-Err-planned : goal.returns-in-Err-planned
returns-in-Err-planned c =
    let k = c.planned.auto in
    rw c.from-in-Err-planned.ensures
    (way-refused _ _ (early-on _ _ c.in_default.ensures)
    (c.in-Err-planned.ensures.refused (number-not-zero _)) (number-not-zero _)
    (zeros-alike _ _ (record {
      parents = omega arith;
      order = omega arith;
      pops = omega arith;
      starts = omega arith;
      rows = omega arith;
      work = omega arith;
    }) c.clear_all.ensures)
    (c.fill.ensures.after (λ y e. e)))

pub store_beside-stored-requires : goal.store_beside-stored-requires
store_beside-stored-requires c = done-at-start _ _ (c.in-Ok.ensures.done refl) refl

pub returns-in-Ok : goal.returns-in-Ok
returns-in-Ok c =
    let k = c.planned.auto in
    rw c.answer.ensures
    (done-stored _ _ (c.in-Ok.ensures.done refl) refl
    (record {
      parents = omega arith;
      order = omega arith;
      pops = omega arith;
      starts = omega arith;
      rows = omega arith;
      work = omega arith;
    })
    c.store_beside-stored.ensures)
