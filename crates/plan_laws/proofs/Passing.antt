-- Proves that all tests of the check pass exactly when the bytes are those of a sound plan of a valid job and the slices are long enough:
-- 11 to 15 make the bytes those of a plan, 16 to 20 and 9 make it sound.
-- Assumes nothing.
use Prim.Native.Nat.{◌*◌, ◌^◌, ◌<◌}
use mathlib.Core.Path.{◌≡◌, sym, ◌∙◌}
use mathlib.Core.Logic.{◌↔◌}
use native.Mathlib.Omega.{arith}
use lib.ListN.{length}
use Rattle.papers.specs.Bounds.{max_groups}
use Rattle.papers.specs.Refusals.{passed, first}
use Rattle.papers.specs.Numbers.{got, Bytes}
use Rattle.papers.specs.Plan.{Plan, plan_read}
use Rattle.papers.specs.Analysis.{fixed_lengths, LongEnough, EarlyCall, early_refusals, early_of}
use Rattle.papers.specs.Check.{CheckCall, other_key, check_early, check_late}
use Rattle.job_laws.specs.Passed.{Passed}
use Rattle.bytes_laws.proofs.Begins.{plan-bytes-read, plan-bytes-iff}
use Rattle.job_laws.proofs.Firsts.{first_of}
use Rattle.job_laws.proofs.Passed.{passed-below}
use Rattle.job_laws.proofs.Outcomes.{early-passes-iff}
use Rattle.check_laws.proofs.Check.{plan-passes-iff, late-passes-iff}
use Rattle.plan_laws.specs.Passing.{Passing}
use Rattle.plan_laws.proofs.Sounds.{sound-fits}
use Rattle.plan_laws.proofs.PlanSound.{sound-iff}

module _ (call : CheckCall) where
  abbrev early : EarlyCall
  early = early_of call.job call.lent

  -- nothing is refused early exactly when the job passes and the slices with a fixed length are long enough
  early-iff : (first check_early call ≡ passed) ↔ (Passed call.job × LongEnough (fixed_lengths call.job.n call.lent))
  unfolding check_early
  early-iff =
      let same = first_of (λ (call : CheckCall). early_of call.job call.lent) early_refusals call in
      let i = early-passes-iff early in
      (λ e. i.0 (sym same ∙ e), λ h. same ∙ i.1 h)

  fits : Passed call.job → call.job.n < 2 ^ (7 * max_groups)
  fits valid = let h = valid.few in omega arith

  -- the bytes of a sound plan are read as that plan
  whole-read : (plan : Plan) → Passing call.job plan call.plan call.lent
      → (other_key.test call ≡ passed) × (plan_read call.job call.plan ≡ got plan (length call.plan))
  whole-read plan q = plan-bytes-read call plan (fits q.valid) (sound-fits call.job q.valid plan q.sound, q.whole)

  -- if nothing is refused, the bytes are those of such a plan
  pub passes-passing : Bytes call.plan → first check_early call ≡ passed → first check_late call ≡ passed
      → (plan : Plan) × Passing call.job plan call.plan call.lent
  passes-passing bytes e p =
      let (valid, fixed) = early-iff.0 e in
      let (key, (plan, at, read, rest)) = (late-passes-iff call).0 p in
      let ((fit, whole), last) = (plan-bytes-iff call plan at (fits valid) bytes).0 (key, read) in
      let (rows, judged) = (plan-passes-iff call plan).0 rest in (
        plan,
        record {
          valid = valid;
          whole = whole;
          sound = (sound-iff call.job plan fit (passed-below call.job valid)).0 judged;
          long = record { fixed = fixed; rows = rows };
        },
      )

  -- the bytes of such a plan are read as it
  pub passing-read : (plan : Plan) → Passing call.job plan call.plan call.lent
      → plan_read call.job call.plan ≡ got plan (length call.plan)
  passing-read plan q = (whole-read plan q).1

  -- the bytes of such a plan pass
  pub passing-passes : (plan : Plan) → Passing call.job plan call.plan call.lent
      → (first check_early call ≡ passed) × (first check_late call ≡ passed)
  passing-passes plan q =
      let fit = sound-fits call.job q.valid plan q.sound in
      let judged = (sound-iff call.job plan fit (passed-below call.job q.valid)).1 q.sound in
      let (key, e) = whole-read plan q in (
        early-iff.1 (q.valid, q.long.fixed),
        (late-passes-iff call).1 (key, (plan, length call.plan, e, (plan-passes-iff call plan).1 (q.long.rows, judged))),
      )
