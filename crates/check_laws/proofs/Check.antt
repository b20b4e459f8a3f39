-- Proves that the check answers exactly by its conditions: those of the job and of the lent slices, then of the plan's bytes, then of the
-- plan whose bytes they are.
-- Assumes nothing.
use Prim.Native.Nat.{ℕ, ◌*◌, ◌^◌, ◌<◌, ◌≤◌}
use mathlib.Core.Path.{◌≡◌, refl, sym, ◌∙◌}
use mathlib.Core.Logic.{◌↔◌}
use mathlib.Core.List.{List, [], ◌∷◌, ◌++◌}
use native.Mathlib.Omega.{arith}
use lib.ListN.{length}
use Rattle.papers.specs.Bounds.{max_groups}
use Rattle.papers.specs.Lists.{flat}
use Rattle.papers.specs.Refusals.{Verdict, passed, refused, Refusal, first, answer, of}
use Rattle.papers.specs.Job.{Below, pattern}
use Rattle.papers.specs.Numbers.{got, Bytes}
use Rattle.papers.specs.Plan.{Plan, AreOf, plan_read, Fit}
use Rattle.papers.specs.Analysis.{all_zero, early_refusals, early_of}
use Rattle.papers.specs.Check.{CheckCall, other_key, judge_refusals, plan_test, of_plan, of_plans, check_early, check_late, check_done, checked}
use Rattle.papers.specs.Check.{plan_refusals, bad_plan}
use Rattle.job_laws.specs.Passed.{Passed}
use Rattle.job_laws.proofs.Firsts.{append-passed-iff, first_of, first-last, over-passes-iff}
use Rattle.job_laws.proofs.Passed.{passed-below}
use Rattle.job_laws.proofs.Outcomes.{early-passes-iff}
use Rattle.bytes_laws.proofs.Fields.{got-inj}
use Rattle.bytes_laws.proofs.Begins.{plan-bytes-iff}
use Rattle.refusal_laws.specs.Exactly.{Exactly}
use Rattle.refusal_laws.proofs.Agreements.{Agree, AgreeEach, ◌▸◌, passed-iff, append-agree, part-agree}
use Rattle.refusal_laws.proofs.Exactly.{outcome-exactly}
use Rattle.refusal_laws.proofs.Tests.{agree-exceeds}
use Rattle.refusal_laws.proofs.Analysis.{early-agree}
use Rattle.check_laws.proofs.PlanTests.{judge-agree}
use Rattle.check_laws.proofs.PlanBytes.{begins-agree, read-iff, read-agree}

module _ (call : CheckCall) where
  -- ---- the plan that was read

  pub plan-test-got : (test : CheckCall × Plan → Verdict) {plan : Plan} {at : ℕ} → plan_read call.job call.plan ≡ got plan at
      → plan_test test call ≡ test (call, plan)
  unfolding plan_test
  plan-test-got test e = rw (e, plan_test)

  module _ {plan : Plan} {at : ℕ} (e : plan_read call.job call.plan ≡ got plan at) where
    -- refusals of the plan are given as they are given of the one that was read
    pub first-plans : (rs : List (Refusal (CheckCall × Plan))) → first (of_plans rs) call ≡ first rs (call, plan)
    unfolding first
    first-plans [] = refl
    first-plans (r ∷ rs) = go (r.test (call, plan)) refl (first-plans rs)
      where
        go : (v : Verdict) → r.test (call, plan) ≡ v → first (of_plans rs) call ≡ first rs (call, plan)
            → first (of_plans (r ∷ rs)) call ≡ first (r ∷ rs) (call, plan)
        go passed q ih = rw (plan-test-got r.test e, q, first) ih
        go (refused a) q ih = rw (plan-test-got r.test e, q, first)

    -- they agree with their conditions if those of that plan do, and the bytes are those of no other plan
    pub plans-agree : (rs : List (Refusal (CheckCall × Plan))) → AreOf call.job call.plan plan
        → ((other : Plan) → AreOf call.job call.plan other → other ≡ plan)
        → AgreeEach rs (call, plan)
        → AgreeEach (of_plans rs) call
    plans-agree [] own one h = tt
    plans-agree (r ∷ rs) own one h =
        (same, λ p. plans-agree rs own one (h.1 (sym (plan-test-got r.test e) ∙ p)))
      where
        same : Agree ((of_plan r).test call) ((of_plan r).gives call)
        same = record {
          same = λ a. (
            λ q. (plan, own, (h.0.same a).0 (sym (plan-test-got r.test e) ∙ q)),
            λ (other, areof, k). plan-test-got r.test e ∙ (h.0.same a).1 (rw (one other areof) at k),
          );
          numbered = λ a (other, areof, k). h.0.numbered a (rw (one other areof) at k);
        }

  -- ---- the check

  pub check-early-agree : AgreeEach check_early call
  unfolding check_early
  check-early-agree =
      part-agree (λ call. early_of call.job call.lent) early_refusals call (early-agree (early_of call.job call.lent))

  -- if nothing is refused early, the job passes
  pub early-passes : first check_early call ≡ passed → Passed call.job
  unfolding check_early
  early-passes p =
      let same = first_of (λ call. early_of call.job call.lent) early_refusals call in
      ((early-passes-iff (early_of call.job call.lent)).0 (sym same ∙ p)).0

  fits : Passed call.job → call.job.n < 2 ^ (7 * max_groups)
  fits p = let h = p.few in omega arith

  -- the refusals of a plan of the job agree with their conditions
  plan-agree : (plan : Plan) → Fit call.job.n plan → Below call.job.n (pattern call.job) → AgreeEach plan_refusals (call, plan)
  unfolding plan_refusals
  plan-agree plan fit below =
      agree-exceeds 8 _ _ (omega arith)
      ▸ λ p. part-agree (λ (call, plan). record { job = call.job; plan = plan }) judge_refusals (call, plan)
      (judge-agree (record { job = call.job; plan = plan }) fit below)

  pub check-late-agree : Bytes call.plan → Passed call.job → AgreeEach check_late call
  unfolding check_late
  check-late-agree bytes valid =
      begins-agree call
      ▸ λ key. read-agree call
      ▸ λ whole. behind key ((read-iff call).0 whole)
    where
      -- bytes that pass 11 and are read as a plan are those of it, and of no other
      behind : other_key.test call ≡ passed → (plan : Plan) × (at : ℕ) × (plan_read call.job call.plan ≡ got plan at)
          → AgreeEach (of_plans plan_refusals) call
      behind key (plan, at, e) =
          let own = ((plan-bytes-iff call plan at (fits valid) bytes).0 (key, e)).0 in
          plans-agree e plan_refusals own
          (λ other areof. (got-inj (sym ((plan-bytes-iff call other (length call.plan) (fits valid) bytes).1 (areof, refl)).1 ∙ e)).0)
          (plan-agree plan own.0 (passed-below call.job valid))

  -- the refusals of the plan are not given exactly when its rows fit and it passes 16 to 20 and 9
  pub plan-passes-iff : (plan : Plan) → (first plan_refusals (call, plan) ≡ passed)
      ↔ ((length (flat plan.lists) ≤ length call.lent.factor_rows) × (first judge_refusals (record { job = call.job; plan = plan }) ≡ passed))
  unfolding plan_refusals
  plan-passes-iff plan =
      let eight = over-passes-iff (length call.lent.factor_rows) (length (flat plan.lists)) (answer 8 0 (length (flat plan.lists))) in
      let same = first_of (λ ((call, plan) : CheckCall × Plan). record { job = call.job; plan = plan }) judge_refusals (call, plan) in
      let both = append-passed-iff (_ ∷ []) (of (λ ((call, plan) : CheckCall × Plan). record { job = call.job; plan = plan }) judge_refusals)
      (call, plan) in
      let one = first-last {C = CheckCall × Plan} _ (call, plan) in (
        λ e. let (p, q) = both.0 e in (eight.0 (sym one ∙ p), sym same ∙ q),
        λ (p, q). both.1 (one ∙ eight.1 p, same ∙ q),
      )

  -- nothing is refused late exactly when the bytes begin with the key, are read as a plan, and its refusals are not given
  pub late-passes-iff : (first check_late call ≡ passed)
      ↔ ((other_key.test call ≡ passed) × ((plan : Plan) × (at : ℕ) × (plan_read call.job call.plan ≡ got plan at)
      × (first plan_refusals (call, plan) ≡ passed)))
  unfolding check_late
  late-passes-iff = (
    λ p.
        let (key, whole) = (append-passed-iff (other_key ∷ []) (bad_plan ∷ of_plans plan_refusals) call).0 p in
        let (read, rest) = (append-passed-iff (bad_plan ∷ []) (of_plans plan_refusals) call).0 whole in
        let (plan, at, e) = (read-iff call).0 (sym (first-last bad_plan call) ∙ read) in
        (sym (first-last other_key call) ∙ key, (plan, at, e, sym (first-plans e plan_refusals) ∙ rest)),
    λ (key, (plan, at, e, rest)).
        (append-passed-iff (other_key ∷ []) (bad_plan ∷ of_plans plan_refusals) call).1 (
          first-last other_key call ∙ key,
          (append-passed-iff (bad_plan ∷ []) (of_plans plan_refusals) call).1 (
            first-last bad_plan call ∙ (read-iff call).1 (plan, at, e),
            first-plans e plan_refusals ∙ rest,
          ),
        ),
  )

  -- a check that refuses nothing has read a plan
  pub passes-read : first check_late call ≡ passed → (plan : Plan) × (at : ℕ) × (plan_read call.job call.plan ≡ got plan at)
  passes-read p = let (key, (plan, at, e, rest)) = late-passes-iff.0 p in (plan, at, e)

  -- so it has number 0 and place 0
  pub done-zero : first check_late call ≡ passed → ((check_done call).answered.number ≡ 0) × ((check_done call).answered.place ≡ 0)
  unfolding check_done
  done-zero p = let (plan, at, e) = passes-read p in (rw (e, check_done), rw (e, check_done))

  -- a plan passes, or is refused, exactly by the conditions of the check
  pub check-exactly : Bytes call.plan
      → Exactly check_early check_late call call.lent (all_zero call.lent) (check_done call) (checked call.job call.plan call.lent)
  unfolding checked
  check-exactly bytes =
      outcome-exactly check_early check_late check_done all_zero call call.lent check-early-agree (λ p. check-late-agree bytes (early-passes p))
      (λ p. (done-zero ((append-passed-iff check_early check_late call).0 p).1).0)

  -- a check that is done has passed all its tests
  pub done-passes : Bytes call.plan → (checked call.job call.plan call.lent).answered.number ≡ 0
      → (first check_early call ≡ passed) × (first check_late call ≡ passed)
  done-passes bytes done =
      let agree = append-agree check_early check_late call check-early-agree (λ p. check-late-agree bytes (early-passes p)) in
      (append-passed-iff check_early check_late call).0 ((passed-iff (check_early ++ check_late) call agree).1 ((check-exactly bytes).done-iff.0 done))
