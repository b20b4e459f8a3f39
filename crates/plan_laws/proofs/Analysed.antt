-- Proves that an analysis that answers 0 has passed its tests, counts the peak, and leaves the plan of the job in its slices.
-- Assumes nothing.
use Prim.Native.Nat.{◌≤◌}
use mathlib.Core.Path.{◌≡◌, refl, sym, ap, ◌∙◌}
use mathlib.Core.Logic.{◌↔◌}
use mathlib.Core.List.{[], ◌∷◌, ◌++◌}
use native.Mathlib.Omega.{arith}
use lib.ListN.{length}
use Rattle.papers.specs.declared.Answer.{Answer}
use Rattle.papers.specs.Bounds.{max_columns}
use Rattle.papers.specs.Lists.{flat}
use Rattle.papers.specs.Refusals.{answer, Verdict, passed, refused, first, Outcome, EndsAs}
use Rattle.papers.specs.Job.{Job}
use Rattle.papers.specs.Plan.{plan_of, Fit}
use Rattle.papers.specs.Analysis.{Lent, all_zero, fixed_lengths, LongEnough, early_refusals, early_of, AnalysisCall, holding_plan}
use Rattle.papers.specs.Analysis.{analysis_early, analysis_late, analysis_done, analysed}
use Rattle.job_laws.specs.Passed.{Passed}
use Rattle.job_laws.specs.Parts.{Parts}
use Rattle.job_laws.proofs.Firsts.{first-append-passed, first-append-refused, append-passed-iff, first_of, first-last, over-passes-iff}
use Rattle.job_laws.proofs.Outcomes.{outcome-early, outcome-late, outcome-done, early-passes-iff}
use Rattle.job_laws.proofs.Parts.{holding-in-slices, parts-stored}
use Rattle.refusal_laws.proofs.Agreements.{AgreeEach, answered-iff, append-agree}
use Rattle.refusal_laws.proofs.Analysis.{analysis-early-agree, analysis-late-agree}
use Rattle.plan_laws.proofs.Sounds.{sound-fits, planned-sound}

-- ---- two outcomes that are equal: their answers, their numbers, what they leave

pub same-answers : {S : Type 0} {a b : Answer} {x y : S} → ◌≡◌ {A = Outcome S} (record { answered = a; lent = x }) (record { answered = b; lent = y })
    → a ≡ b
same-answers {S} e = ap (λ (o : Outcome S). o.answered) e

pub same_numbers : {S : Type 0} {a b : Answer} {x y : S} → ◌≡◌ {A = Outcome S} (record { answered = a; lent = x }) (record { answered = b; lent = y })
    → a.number ≡ b.number
same_numbers {S} e = ap (λ (o : Outcome S). o.answered.number) e

pub same-lent : {S : Type 0} {a b : Answer} {x y : S} → ◌≡◌ {A = Outcome S} (record { answered = a; lent = x }) (record { answered = b; lent = y })
    → x ≡ y
same-lent {S} e = ap (λ (o : Outcome S). o.lent) e

module _ (job : Job) (lent : Lent) where
  abbrev call : AnalysisCall
  call = record { job = job; lent = lent }

  -- ---- an analysis that has passed its tests

  early-iff : (first analysis_early (record { job = job; lent = lent }) ≡ passed) ↔ (Passed job × LongEnough (fixed_lengths job.n lent))
  unfolding analysis_early
  early-iff =
      let same = first_of (λ (call : AnalysisCall). early_of call.job call.lent) early_refusals call in
      let i = early-passes-iff (early_of job lent) in
      (λ e. i.0 (sym same ∙ e), λ h. same ∙ i.1 h)

  pub late-iff : (first analysis_late (record { job = job; lent = lent }) ≡ passed)
      ↔ ((length (flat (plan_of job).lists) ≤ length lent.factor_rows) × ((plan_of job).peak ≤ job.limit))
  unfolding analysis_late
  late-iff =
      let both = append-passed-iff (_ ∷ []) (_ ∷ []) call in
      let rows = over-passes-iff (length lent.factor_rows) (length (flat (plan_of job).lists)) (answer 8 0 (length (flat (plan_of job).lists))) in
      let peak = over-passes-iff job.limit (plan_of job).peak (answer 9 0 (plan_of job).peak) in (
        λ e. let (p, q) = both.0 e in (rows.0 (sym (first-last _ call) ∙ p), peak.0 (sym (first-last _ call) ∙ q)),
        λ (p, q). both.1 (first-last _ call ∙ rows.1 p, first-last _ call ∙ peak.1 q),
      )

  pub passed-valid : first analysis_early (record { job = job; lent = lent }) ≡ passed → Passed job
  passed-valid e = (early-iff.0 e).0

  pub passed-within : first analysis_late (record { job = job; lent = lent }) ≡ passed → (plan_of job).peak ≤ job.limit
  passed-within e = (late-iff.0 e).1

  -- ---- an analysis that answers 0

  -- it has passed its tests, counts the peak, and its slices hold the plan
  pub record AnalysisDone (r : Answer) (after : Lent) : Type 0 where
    pub early : first analysis_early (record { job = job; lent = lent }) ≡ passed
    pub late : first analysis_late (record { job = job; lent = lent }) ≡ passed
    pub counts : r.count ≡ (plan_of job).peak
    pub holds : after ≡ holding_plan job (plan_of job) lent

  pub analysis-done : {r : Answer} {after : Lent} → EndsAs r after (analysed job lent) → r.number ≡ 0 → AnalysisDone r after
  unfolding analysed analysis_done
  analysis-done {r} {after} e z = go (first analysis_early call) refl (first analysis_late call) refl
    where
      agree : AgreeEach (analysis_early ++ analysis_late) call
      agree = append-agree analysis_early analysis_late call (analysis-early-agree call) (λ p. analysis-late-agree call)

      -- a refusal has a number
      numbered : {a : Answer} → first (analysis_early ++ analysis_late) call ≡ refused a → r.number ≡ a.number → ⊥
      numbered {a} q f =
          let given = answered-iff (analysis_early ++ analysis_late) call agree in
          omega (arith, given.numbered a ((given.same a).0 q))

      go : (v : Verdict) → first analysis_early call ≡ v → (w : Verdict) → first analysis_late call ≡ w → AnalysisDone r after
      go (refused a) q w l =
          absurd (numbered (first-append-refused analysis_early analysis_late call q)
          (same_numbers (e ∙ outcome-early analysis_early analysis_late analysis_done all_zero call lent q)))
      go passed q (refused a) l =
          absurd (numbered (first-append-passed analysis_early analysis_late call q ∙ l)
          (same_numbers (e ∙ outcome-late analysis_early analysis_late analysis_done all_zero call lent q l)))
      go passed q passed l =
          let f = e ∙ outcome-done analysis_early analysis_late analysis_done all_zero call lent q l in
          record { early = q; late = l; counts = ap (λ (a : Answer). a.count) (same-answers f); holds = same-lent f }

  module _ {r : Answer} {after : Lent} (e : EndsAs r after (analysed job lent)) (z : r.number ≡ 0)
    where
      pub done-valid : Passed job
      done-valid = passed-valid (analysis-done e z).early

      pub done-few : job.n ≤ max_columns
      done-few = done-valid.few

      pub done-peak : r.count ≡ (plan_of job).peak
      done-peak = (analysis-done e z).counts

      pub done-fit : Fit job.n (plan_of job)
      done-fit = sound-fits job done-valid (plan_of job) (planned-sound job done-valid (passed-within (analysis-done e z).late))

      -- the parts of its slices are the plan of the job
      pub done-parts : Parts job.n (plan_of job) after.order after.pops after.factor_starts after.factor_rows
      done-parts =
          let done = analysis-done e z in
          let fixed = (early-iff.0 done.early).1 in
          parts-stored done-fit (holding-in-slices job (plan_of job) lent done.holds) (omega (arith, fixed)) (omega (arith, fixed))
          (omega (arith, fixed)) (late-iff.0 done.late).0
