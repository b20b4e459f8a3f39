-- Proves that `analyse` makes its tests in the order of their numbers. A job or slices that fail one of 1 to 7 are answered by it; else the
-- answer is that of making the plan, and a refusal clears the slices.
-- Assumes nothing.
use Rattle.std.proofs.Common.{◌≢◌, rules, sym, arith}
use Rattle.job_laws.proofs.Outcomes.{early-passes-iff}
use Rattle.refusals.specs.Answers.{answer_from}
use Rattle.refusals.proofs.Numbered.{error-numbered}
use Rattle.lent_plan.proofs.Ways.{way-early}
use Rattle.lent_plan.proofs.Made.{made-cleared}
use Rattle.analysis.proofs.analyse.Goals as goal

-- ---- 1 to 7

pub returns-in-Err : goal.returns-in-Err
returns-in-Err c = rw c.from.ensures (way-early _ _ c.in-Err.ensures)

-- ---- the plan, or 8 or 9

pub planned-plan-requires : goal.planned-plan-requires
planned-plan-requires c =
    let (passes, long) = (early-passes-iff _).0 (sym c.in_default.ensures) in
    record { passes = passes; long = long }

pub returns-then-refused : goal.returns-then-refused
returns-then-refused c =
    let lengths = c.planned-plan.auto in
    let numbered : (answer_from c.planned-plan.result).number ≢ 0 = grind (arith, error-numbered) in
    rw c.answer-answer.ensures (made-cleared c.planned-plan.ensures (search rules) numbered c.clear_all.ensures)
