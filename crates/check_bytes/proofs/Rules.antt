-- Proves the check's outcome from the answers of the key's test, the reading and the judgement: each decides, or leaves the answer to the next. The
-- reading keeps its numbers in cleared slices, so a plan that passes is followed by zeros.
-- Assumes nothing.
use Prim.Native.Nat.{ℕ, ◌<◌, ◌≤◌}
use mathlib.Core.Path.{◌≡◌, refl, sym, ap, ◌∙◌}
use mathlib.Core.List.{List, map}
use native.Mathlib.Omega.{arith}
use lib.ListN.{length, length-replicate}
use lib.Seq.{sets, length-sets}
use Rattle.papers.specs.declared.Answer.{Answer}
use Rattle.papers.specs.Lists.{up_to, flat, zeros}
use Rattle.papers.specs.Refusals.{answer, passed, first}
use Rattle.papers.specs.Job.{Job, pattern}
use Rattle.papers.specs.Tree.{parent}
use Rattle.papers.specs.Numbers.{got, Bytes}
use Rattle.papers.specs.Key.{key_of}
use Rattle.papers.specs.Plan.{Plan, plan_read_from, plan_read, Fit}
use Rattle.papers.specs.Analysis.{Lent, all_zero, holding_plan, LongEnough, fixed_lengths}
use Rattle.papers.specs.Check.{CheckCall, check_done, other_key, judge_refusals}
use Rattle.job_laws.specs.Passed.{Passed}
use Rattle.bytes_laws.proofs.Plans.{plan-only}
use Rattle.job_laws.specs.Parts.{InSlices}
use Rattle.lent.specs.Six.{six_slices}
use Rattle.lent.proofs.Sixes.{each-zero}
use Rattle.lent.proofs.Alike.{Alike, long-alike}
use Rattle.column_laws.proofs.Testing.{tested}
use Rattle.check_key.specs.Matches.{key_match}
use Rattle.check_key.proofs.Answers.{begins-key}
use Rattle.read_plan.specs.declared.PlanFound.{PlanFound}
use Rattle.std.proofs.Common.{Result, Ok, Err}
use Rattle.refusals.specs.declared.Fault.{Fault}
use Rattle.refusals.specs.Answers.{answer_refusing, refused_without_count}
use Rattle.refusals.proofs.Numbered.{number-not-zero}
use Rattle.read_fields.specs.Reading.{bad_from_fault}
use Rattle.read_plan.specs.Plans.{PlanAsked, PlanRead}
use Rattle.check_judge.specs.Judged.{plan_from, PlanAtStart, PlanGiven, ruling, Judged}
use Rattle.check_judge.proofs.Rulings.{Told, refusal, clean, told, number_of}
use Rattle.check_bytes.specs.Ruled.{check_of, Checkable, Ruled, refuses, passes}
use Rattle.check_bytes.proofs.Ways.{early-passes, refuses-11, passes-11, refuses-12, refuses-8, from-16}
use Rattle.check_bytes.proofs.AtStart.{in-slices, plan-at-start, done-holds}

-- clearing keeps the lengths
zero-long : (l₀ : List ℕ) {l : List ℕ} → l ≡ zeros l₀ → length l ≡ length l₀
zero-long l₀ e = ap length e ∙ length-replicate (length l₀) 0

-- ---- the judgement on the plan that was read
module _ (job : Job) (bytes : List ℕ) (lent : Lent) (p : Passed job) (long : LongEnough (fixed_lengths job.n lent))
    (begins : other_key.test (check_of job bytes lent) ≡ passed)
    {plan : Plan} {at : ℕ} (read : plan_read job bytes ≡ got plan at)
  where
    abbrev call : CheckCall
    call = check_of job bytes lent

    done-is : check_done call ≡ record { answered = answer 0 0 plan.peak; lent = holding_plan job plan lent }
    unfolding check_done
    done-is = rw (read, check_done)

    judged-plan : {parents order pops starts rows : List ℕ} {peak : ℕ} {r : Answer} → length (flat plan.lists) ≤ length lent.factor_rows
        → plan.peak ≡ peak
        → r ≡ ruling (first judge_refusals (plan_from job plan)) peak
        → (r.number ≡ 0 → six_slices parents order pops starts rows (zeros lent.work) ≡ holding_plan job plan lent)
        → Ruled call parents order pops starts rows r
    judged-plan {parents} {order} {pops} {starts} {rows} {peak} {r} fits declared e holds = go (told job plan peak e)
      where
        go : Told (first judge_refusals (plan_from job plan)) peak r → Ruled call parents order pops starts rows r
        go (refusal q z) = refuses (early-passes job bytes lent p long) (from-16 job bytes lent begins read fits ∙ q) z
        go (clean q f) =
            let h = holds (number_of f) in
            let a : r ≡ answer 0 0 plan.peak = f ∙ ap (answer 0 0) (sym declared) in
            passes (early-passes job bytes lent p long) (from-16 job bytes lent begins read fits ∙ q) (number_of f)
            ((λ i. record { answered = a i; lent = h i }) ∙ sym done-is)

-- ---- from the key on

-- the plan begins with the job's key, and the bytes behind it, from `at` on, are to be read
pub record Begun (job : Job) (bytes : List ℕ) (lent : Lent) (at : ℕ) : Type 0 where
  pub asked : Checkable job lent
  pub begins : key_match (key_of job) bytes ≡ Ok at
  pub each-byte : Bytes bytes

-- 11: the plan does not begin with the key
pub ruled-key : {job : Job} {bytes : List ℕ} {lent : Lent} {parents order pops starts rows : List ℕ} {m : Result ℕ Fault} {fault : Fault}
    → Checkable job lent → m ≡ key_match (key_of job) bytes → m ≡ Err fault
    → Ruled (check_of job bytes lent) parents order pops starts rows (answer_refusing (refused_without_count fault))
ruled-key {fault = fault} asked matched differs =
    refuses (early-passes _ _ _ asked.passes asked.long) (refuses-11 _ _ _ matched differs) (number-not-zero fault.refusal)

module _ {job : Job} {bytes : List ℕ} {lent : Lent} {at : ℕ} (begun : Begun job bytes lent at) where
  p : Passed job
  p = begun.asked.passes

  long : LongEnough (fixed_lengths job.n lent)
  long = begun.asked.long

  begins : other_key.test (check_of job bytes lent) ≡ passed
  begins = passes-11 job bytes lent refl begun.begins

  at_key : at ≡ length (key_of job)
  at_key = (begins-key (key_of job) bytes refl begun.begins).1

  -- the bytes are read into cleared slices
  module _ {p₁ o₁ q₁ s₁ r₁ w₁ : List ℕ} (cleared : six_slices p₁ o₁ q₁ s₁ r₁ w₁ ≡ all_zero lent) where
    -- the slices keep their lengths
    alike : Alike lent (six_slices p₁ o₁ q₁ s₁ r₁ w₁)
    alike =
        let each = each-zero lent _ cleared in
        record {
          parents = zero-long lent.parents each.parents;
          order = zero-long lent.order each.order;
          pops = zero-long lent.pops each.pops;
          starts = zero-long lent.factor_starts each.starts;
          rows = zero-long lent.factor_rows each.rows;
          work = zero-long lent.work each.work;
        }

    -- so the slices have room for the plan's steps and starts
    pub plan-asked : PlanAsked job.n bytes at o₁ q₁ s₁
    plan-asked =
        let room = long-alike alike long in
        record {
          few = (tested job p).few;
          inside = (begins-key (key_of job) bytes refl begun.begins).2;
          order-long = omega (arith, room);
          pops-long = omega (arith, room);
          starts-long = omega (arith, room);
        }

    -- 12 to 15
    pub ruled-faulty : (fault : Fault) {parents order pops starts rows : List ℕ} → plan_read_from job.n bytes at ≡ bad_from_fault fault
        → Ruled (check_of job bytes lent) parents order pops starts rows (answer_refusing (refused_without_count fault))
    unfolding plan_read
    ruled-faulty fault e =
        refuses (early-passes job bytes lent p long) (refuses-12 job bytes lent begins fault (rw at_key at e)) (number-not-zero fault.refusal)

    -- a plan was read to its end
    module _ {found : PlanFound} {o q s r : List ℕ} (told : PlanRead (plan_read_from job.n bytes at) found o₁ o q₁ q s₁ s r₁ r) where
      plan : Plan
      plan = told.plan

      read : plan_read job bytes ≡ got told.plan told.end
      unfolding plan_read
      read = rw at_key at told.read

      -- the slice of rows keeps its length
      as_many : length r ≡ length lent.factor_rows
      as_many = ap length told.kept.listed ∙ length-sets r₁ 0 (flat told.plan.lists) ∙ alike.rows

      -- 8
      pub ruled-rows : {parents : List ℕ} → length r < found.rows → Ruled (check_of job bytes lent) parents o q s r (answer 8 0 found.rows)
      ruled-rows l =
          refuses (early-passes job bytes lent p long)
          (rw told.counted (refuses-8 job bytes lent begins read (omega (arith, told.counted, as_many)))) (λ z. omega arith)

      -- 16 to 20 and 9: its rows fit, so the slices hold it
      module _ (fits : found.rows ≤ length r) where
        fit : Fit job.n told.plan
        unfolding plan_read
        fit = (plan-only job.n bytes begun.each-byte told.plan (length (key_of job)) told.end read).1

        room : length (flat told.plan.lists) ≤ length lent.factor_rows
        room = omega (arith, told.counted, as_many)

        kept : InSlices told.plan lent o q s r
        kept =
            let each = each-zero lent _ cleared in
            in-slices fit lent long room each.order each.pops each.starts each.rows told.kept

        at-start : PlanAtStart job.n told.plan found.peak o q s r
        at-start = plan-at-start fit lent kept (sym told.declared)

        -- the plan that was read can be judged
        pub judgeable : Alike (six_slices p₁ o₁ q₁ s₁ r₁ w₁) (six_slices p₁ o q s r w₁) → PlanGiven job found.peak (six_slices p₁ o q s r w₁)
        judgeable same = record {
          valid = p;
          plan = record { plan = told.plan; at-start = at-start };
          long = long-alike same (long-alike alike long);
        }

        -- the judgement decides the check
        pub ruled-judged : {parents : List ℕ} {a : Answer} → Judged job found.peak o q s r a
            → (a.number ≡ 0 → parents ≡ sets p₁ 0 (map (parent (pattern job)) (up_to job.n)))
            → Ruled (check_of job bytes lent) parents o q s r a
        ruled-judged e stores =
            judged-plan job bytes lent p long begins read room (sym told.declared) (e told.plan at-start)
            (λ z. done-holds job told.plan lent (omega (arith, long)) (each-zero lent _ cleared).parents (stores z) kept)
