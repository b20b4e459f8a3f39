-- Proves the outcome of an analysis for each way through its tests: each test refuses, or leaves the answer to the next one.
-- Assumes nothing.
use Prim.Native.Nat.{ℕ, ◌<◌, ◌≤◌}
use mathlib.Core.Path.{◌≡◌, sym, ◌∙◌}
use lib.ListN.{length}
use Rattle.papers.specs.declared.Answer.{Answer}
use Rattle.papers.specs.Lists.{flat}
use Rattle.papers.specs.Refusals.{answer, passed, refused, first, EndsAs}
use Rattle.papers.specs.Job.{Job, pattern}
use Rattle.papers.specs.Fill.{R}
use Rattle.papers.specs.Order.{order_of, order_peak}
use Rattle.papers.specs.Key.{lists_of}
use Rattle.papers.specs.Plan.{plan_for, plan_of}
use Rattle.papers.specs.Analysis.{Lent, all_zero, fixed_lengths, LongEnough, early_refusals, early_of, peak_over, AnalysisCall, holding_plan}
use Rattle.papers.specs.Analysis.{analysis_early, analysis_late, analysis_done, analysed}
use Rattle.job_laws.specs.Passed.{Passed}
use Rattle.job_laws.proofs.Firsts.{first_passes, first-refuses, first_of, first-last, over-refuses, over-passes-iff}
use Rattle.job_laws.proofs.Outcomes.{outcome-early, outcome-late, outcome-done, early-passes-iff}

-- the rows of all lists together, and the peak
abbrev pub needed : Job → ℕ
needed job = length (flat (lists_of job.n (R (pattern job))))

abbrev pub peak_in : Job → ℕ
peak_in job = order_peak job.n (pattern job) (order_of job.mark job.n (pattern job))

module _ (job : Job) (lent : Lent) where
  abbrev call : AnalysisCall
  call = record { job = job; lent = lent }

  same-early : first analysis_early call ≡ first early_refusals (early_of job lent)
  unfolding analysis_early
  same-early = first_of (λ (call : AnalysisCall). early_of call.job call.lent) early_refusals call

  -- 1 to 7
  pub way-early : {a : Answer} → refused a ≡ first early_refusals (early_of job lent) → record { answered = a; lent = lent } ≡ analysed job lent
  unfolding analysed
  way-early e = sym (outcome-early analysis_early analysis_late analysis_done all_zero call lent (same-early ∙ sym e))

  module _ (p : Passed job) (long : LongEnough (fixed_lengths job.n lent)) where
    early-passes : first analysis_early call ≡ passed
    early-passes = same-early ∙ (early-passes-iff (early_of job lent)).1 (p, long)

    -- 8
    pub way-rows : {r : Answer} {after : Lent} → length lent.factor_rows < needed job → r ≡ answer 8 0 (needed job) → after ≡ all_zero lent
        → EndsAs r after (analysed job lent)
    unfolding analysed analysis_late plan_of plan_for
    way-rows h e z =
        rw (e, z)
        (sym (outcome-late analysis_early analysis_late analysis_done all_zero call lent early-passes
        (first-refuses _ _ call (over-refuses (length lent.factor_rows) (needed job) _ h))))

    module _ (fit : needed job ≤ length lent.factor_rows) where
      last-test : first analysis_late call ≡ (peak_over peak_in (λ job. job)).test job
      unfolding analysis_late plan_of plan_for
      last-test = first_passes _ _ call ((over-passes-iff (length lent.factor_rows) (needed job) _).1 fit) ∙ first-last _ call

      -- 9
      pub way-peak : {r : Answer} {after : Lent} → job.limit < peak_in job → r ≡ answer 9 0 (peak_in job) → after ≡ all_zero lent
          → EndsAs r after (analysed job lent)
      unfolding analysed
      way-peak h e z =
          rw (e, z)
          (sym (outcome-late analysis_early analysis_late analysis_done all_zero call lent early-passes
          (last-test ∙ over-refuses job.limit (peak_in job) _ h)))

      -- done
      pub way-done : {r : Answer} {after : Lent} → peak_in job ≤ job.limit → r ≡ answer 0 0 (peak_in job) → after ≡ holding_plan job (plan_of job) lent
          → EndsAs r after (analysed job lent)
      unfolding analysed analysis_done plan_of plan_for
      way-done h e z =
          rw (e, z)
          (sym (outcome-done analysis_early analysis_late analysis_done all_zero call lent early-passes
          (last-test ∙ (over-passes-iff job.limit (peak_in job) _).1 h)))
