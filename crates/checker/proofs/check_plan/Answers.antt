-- Proves that `check_plan` answers right: 1 to 7 end it at once; in every other case the tests decide, and then it
-- clears all slices, or work alone.
-- Assumes nothing.
use Rattle.std.proofs.Common.{◌≡◌, ◌≢◌, sym, arith}
use Rattle.refusals.specs.Answers.{answer_from}
use Rattle.refusals.proofs.Numbered.{error-numbered, done-numbered}
use Rattle.job_laws.proofs.Outcomes.{early-passes-iff}
use Rattle.lent.proofs.Alike.{zeros-alike}
use Rattle.check_bytes.proofs.Ways.{way-early, way-refused, way-done}
use Rattle.checker.proofs.check_plan.Goals as goal

pub returns-in-Err : goal.returns-in-Err
returns-in-Err c = rw c.from.ensures (way-early _ _ _ c.in-Err.ensures)

pub judge_bytes-judged-requires : goal.judge_bytes-judged-requires
judge_bytes-judged-requires c =
    let (passes, long) = (early-passes-iff _).0 (sym c.in_default.ensures) in
    record { passes = passes; long = long }

pub returns-then-refused : goal.returns-then-refused
returns-then-refused c =
    let k = c.judge_bytes-judged.auto in
    let numbered : (answer_from c.judge_bytes-judged.result).number ≢ 0 = grind (arith, error-numbered) in
    rw c.answer-answer.ensures (way-refused c.judge_bytes-judged.ensures numbered
    (zeros-alike _ _ (record {
      parents = omega arith;
      order = omega arith;
      pops = omega arith;
      starts = omega arith;
      rows = omega arith;
      work = omega arith;
    }) c.clear_all.ensures))

pub returns : goal.returns
returns c =
    let done : (answer_from c.judge_bytes-judged.result).number ≡ 0 = grind (arith, done-numbered) in
    rw c.answer-answer.ensures (way-done c.judge_bytes-judged.ensures done
    (let kept = c.judge_bytes-judged.auto in cc (c.fill.ensures.after (λ y e. e))))
