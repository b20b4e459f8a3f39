-- Proves the outcome of a check for each way through its tests: each test refuses, or leaves the answer to the next one.
-- Assumes nothing.
use Prim.Native.Nat.{ℕ, ◌<◌, ◌≤◌}
use mathlib.Core.Path.{◌≡◌, refl, sym, ◌∙◌}
use mathlib.Core.Logic.{◌≢◌}
use mathlib.Core.List.{List}
use native.Mathlib.Omega.{arith}
use lib.ListN.{length}
use Rattle.papers.specs.declared.Answer.{Answer}
use Rattle.papers.specs.Lists.{flat, zeros}
use Rattle.papers.specs.Refusals.{answer, passed, refused, first, EndsAs}
use Rattle.papers.specs.Job.{Job}
use Rattle.papers.specs.Numbers.{got}
use Rattle.papers.specs.Key.{key_of}
use Rattle.papers.specs.Plan.{Plan, plan_read}
use Rattle.papers.specs.Analysis.{Lent, all_zero, fixed_lengths, LongEnough, early_refusals, early_of}
use Rattle.papers.specs.Check.{CheckCall, other_key, bad_plan, judge_refusals, plan_refusals, check_early, check_late, check_done, checked}
use Rattle.job_laws.specs.Passed.{Passed}
use Rattle.job_laws.proofs.Firsts.{first_passes, first-refuses, first_of, over-refuses, over-passes-iff}
use Rattle.job_laws.proofs.Outcomes.{outcome-early, outcome-late, outcome-done, early-passes-iff}
use Rattle.check_laws.proofs.PlanBytes.{read-got, read-bad}
use Rattle.check_laws.proofs.Check.{first-plans}
use Rattle.lent.specs.Six.{six_slices}
use Rattle.std.proofs.Common.{Result, Ok, Err}
use Rattle.refusals.specs.declared.Fault.{Fault}
use Rattle.refusals.specs.Answers.{answer_refusing, refused_without_count}
use Rattle.read_fields.specs.Reading.{bad_from_fault}
use Rattle.check_key.specs.Matches.{key_match}
use Rattle.check_key.proofs.Answers.{begins-key, differs-key}
use Rattle.check_judge.proofs.Rulings.{at-refuses, at-passes}
use Rattle.check_judge.specs.Judged.{plan_from}
use Rattle.check_bytes.specs.Ruled.{check_of, Ruled, refuses, passes}

module _ (job : Job) (bytes : List ℕ) (lent : Lent) where
  abbrev call : CheckCall
  call = check_of job bytes lent

  same-early : first check_early call ≡ first early_refusals (early_of job lent)
  unfolding check_early
  same-early = first_of (λ (call : CheckCall). early_of call.job call.lent) early_refusals call

  -- 1 to 7
  pub way-early : {a : Answer} → refused a ≡ first early_refusals (early_of job lent) → record { answered = a; lent = lent } ≡ checked job bytes lent
  unfolding checked
  way-early e = sym (outcome-early check_early check_late check_done all_zero call lent (same-early ∙ sym e))

  pub early-passes : Passed job → LongEnough (fixed_lengths job.n lent) → first check_early call ≡ passed
  early-passes p long = same-early ∙ (early-passes-iff (early_of job lent)).1 (p, long)

  -- 11
  module _ {m : Result ℕ Fault} (e : m ≡ key_match (key_of job) bytes) where
    pub refuses-11 : {fault : Fault} → m ≡ Err fault → first check_late call ≡ refused (answer_refusing (refused_without_count fault))
    unfolding check_late
    refuses-11 {fault} d =
        let (is, f, l) = differs-key (key_of job) bytes e d in
        first-refuses other_key _ call (rw is (at-refuses 11 fault.place (sym f) (λ z. omega arith)))

    pub passes-11 : {next : ℕ} → m ≡ Ok next → other_key.test call ≡ passed
    passes-11 b = at-passes 11 refl (begins-key (key_of job) bytes e b).0

  module _ (begins : other_key.test call ≡ passed) where
    -- 12 to 15
    pub refuses-12 : (fault : Fault) → plan_read job bytes ≡ bad_from_fault fault
        → first check_late call ≡ refused (answer_refusing (refused_without_count fault))
    unfolding check_late
    refuses-12 fault f = first_passes other_key _ call begins ∙ first-refuses bad_plan _ call (read-bad call f)

    module _ {plan : Plan} {at : ℕ} (read : plan_read job bytes ≡ got plan at) where
      -- the refusals of the plan that was read are left
      from-8 : first check_late call ≡ first plan_refusals (call, plan)
      unfolding check_late
      from-8 = first_passes other_key _ call begins ∙ first_passes bad_plan _ call (read-got call read) ∙ first-plans call read plan_refusals

      -- 8
      pub refuses-8 : length lent.factor_rows < length (flat plan.lists) → first check_late call ≡ refused (answer 8 0 (length (flat plan.lists)))
      unfolding plan_refusals
      refuses-8 l = from-8 ∙ first-refuses _ _ (call, plan) (over-refuses (length lent.factor_rows) _ _ l)

      -- 16 to 20 and 9 are left, on that plan
      pub from-16 : length (flat plan.lists) ≤ length lent.factor_rows → first check_late call ≡ first judge_refusals (plan_from job plan)
      unfolding plan_refusals
      from-16 l =
          from-8
          ∙ first_passes _ _ (call, plan) ((over-passes-iff (length lent.factor_rows) _ _).1 l)
          ∙ first_of (λ ((call, plan) : CheckCall × Plan). record { job = call.job; plan = plan }) judge_refusals (call, plan)

-- what is known after the tests gives the outcome once the slices are cleared
module _ {job : Job} {bytes : List ℕ} {lent : Lent} {parents order pops starts rows : List ℕ} {r : Answer}
    (ruled : Ruled (check_of job bytes lent) parents order pops starts rows r) where
  pub way-refused : {after : Lent} → r.number ≢ 0 → after ≡ all_zero lent → EndsAs r after (checked job bytes lent)
  unfolding checked
  way-refused {after} z e = go ruled
    where
      go : Ruled (check_of job bytes lent) parents order pops starts rows r → EndsAs r after (checked job bytes lent)
      go (refuses p q n) =
          (λ i. record { answered = r; lent = e i }) ∙ sym (outcome-late check_early check_late check_done all_zero (check_of job bytes lent) lent p q)
      go (passes p q n h) = absurd (z n)

  pub way-done : {work : List ℕ} → r.number ≡ 0 → work ≡ zeros lent.work
      → EndsAs r (six_slices parents order pops starts rows work) (checked job bytes lent)
  unfolding checked
  way-done {work} z e = go ruled
    where
      go : Ruled (check_of job bytes lent) parents order pops starts rows r
          → EndsAs r (six_slices parents order pops starts rows work) (checked job bytes lent)
      go (refuses p q n) = absurd (n z)
      go (passes p q n h) =
          (λ i. record { answered = r; lent = six_slices parents order pops starts rows (e i) }) ∙ h
          ∙ sym (outcome-done check_early check_late check_done all_zero
          (check_of job bytes lent) lent p q)
