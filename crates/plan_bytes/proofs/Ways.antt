-- Proves the outcome of writing a plan: a refusal of 1 to 7 keeps the slices; one of 8 and 9 clears them; and if the plan is made, the room for the
-- bytes decides.
-- Assumes nothing.
use Prim.Native.Nat.{ℕ, ◌<◌, ◌≤◌}
use mathlib.Core.Path.{◌≡◌, refl, sym, ◌∙◌}
use mathlib.Core.Logic.{◌≢◌, ◌⊎◌, inl, inr}
use mathlib.Core.List.{List}
use lib.ListN.{length}
use Rattle.papers.specs.declared.Answer.{Answer}
use Rattle.papers.specs.Lists.{zeros, then_zeros}
use Rattle.papers.specs.Refusals.{answer, Verdict, passed, refused, first, Outcome, EndsAs}
use Rattle.papers.specs.Job.{Job}
use Rattle.papers.specs.Plan.{plan_of, bytes_of_plan}
use Rattle.papers.specs.Analysis.{Lent, all_zero, early_refusals, early_of, bytes_short, AnalysisCall, holding_plan, analysis_early, analysis_late}
use Rattle.papers.specs.Analysis.{analysis_done, analysed, PlanLent, PlanCall, analysis_of, plan_early, plan_late, plan_done, plan_zero, plan_written}
use Rattle.list_laws.proofs.Tests.{below_or}
use Rattle.job_laws.proofs.Firsts.{first-append-passed, first-append-refused, first_of, first-last, over-refuses, over-passes-iff}
use Rattle.job_laws.proofs.Outcomes.{outcome-early, outcome-late, outcome-done}
use Rattle.plan_laws.proofs.Analysed.{same-answers, same_numbers}
use Rattle.plan_store.specs.Beside.{stored_beside}
use Rattle.plan_store.proofs.Besides.{beside-short, beside-whole}

module _ (job : Job) (lent : Lent) where
  same-early : first analysis_early (record { job = job; lent = lent }) ≡ first early_refusals (early_of job lent)
  unfolding analysis_early
  same-early = first_of (λ (call : AnalysisCall). early_of call.job call.lent) early_refusals (record { job = job; lent = lent })

  -- a job and slices that are not refused by 1 to 7
  pub early-on : passed ≡ first early_refusals (early_of job lent) → first analysis_early (record { job = job; lent = lent }) ≡ passed
  early-on e = same-early ∙ sym e

module _ (job : Job) (slices : PlanLent) where
  abbrev call : PlanCall
  call = record { job = job; slices = slices }

  abbrev written : List ℕ
  written = bytes_of_plan job (plan_of job)

  -- the early refusals are those of the analysis
  early-of : first plan_early call ≡ first analysis_early (analysis_of call)
  unfolding plan_early
  early-of = first_of analysis_of analysis_early call

  -- 1 to 7
  pub way-early : {a : Answer} → refused a ≡ first early_refusals (early_of job slices.analysis) → EndsAs a slices (plan_written job slices)
  unfolding plan_written
  way-early e =
      sym (outcome-early plan_early plan_late plan_done plan_zero call slices (early-of ∙ same-early job slices.analysis ∙ sym e))

  -- 8 and 9
  pub way-refused : {r : Answer} {after : Lent} {bytes : List ℕ} → first analysis_early (record { job = job; lent = slices.analysis }) ≡ passed
      → EndsAs r (all_zero slices.analysis) (analysed job slices.analysis) → r.number ≢ 0
      → after ≡ all_zero slices.analysis → bytes ≡ zeros slices.bytes
      → EndsAs r (record { analysis = after; bytes = bytes }) (plan_written job slices)
  unfolding analysed analysis_done plan_written plan_zero plan_late
  way-refused {r} {after} {bytes} p e z a b = go (first analysis_late (analysis_of call)) refl
    where
      go : (v : Verdict) → first analysis_late (analysis_of call) ≡ v → EndsAs r (record { analysis = after; bytes = bytes }) (plan_written job slices)
      go passed q =
          absurd (z (same_numbers (e ∙ outcome-done analysis_early analysis_late analysis_done all_zero (analysis_of call) slices.analysis p q)))
      go (refused c) q =
          let f = e ∙ outcome-late analysis_early analysis_late analysis_done all_zero (analysis_of call) slices.analysis p q in
          rw (same-answers f, a, b)
          (sym (outcome-late plan_early plan_late plan_done plan_zero call slices (early-of ∙ p)
          (first-append-refused _ _ call (first_of analysis_of analysis_late call ∙ q))))

  -- ---- the plan is made

  module _ (p : first analysis_early (record { job = job; lent = slices.analysis }) ≡ passed)
      (l : first analysis_late (record { job = job; lent = slices.analysis }) ≡ passed) where
    last-test : first plan_late (record { job = job; slices = slices }) ≡ (bytes_short (λ (s : PlanLent). bytes_of_plan job (plan_of job)) (λ s. s.bytes)).test
        slices
    unfolding plan_late
    last-test = first-append-passed _ _ call (first_of analysis_of analysis_late call ∙ l) ∙ first-last _ call

    short-way : length slices.bytes < length (bytes_of_plan job (plan_of job))
        → plan_written job slices ≡ record {
          answered = answer 10 0 (length (bytes_of_plan job (plan_of job)));
          lent = record { analysis = all_zero slices.analysis; bytes = zeros slices.bytes };
        }
    unfolding plan_written plan_zero
    short-way h =
        outcome-late plan_early plan_late plan_done plan_zero call slices (early-of ∙ p)
        (last-test ∙ over-refuses (length slices.bytes) (length written) _ h)

    whole-way : length (bytes_of_plan job (plan_of job)) ≤ length slices.bytes
        → plan_written job slices ≡ record {
          answered = answer 0 0 (length (bytes_of_plan job (plan_of job)));
          lent = record {
            analysis = holding_plan job (plan_of job) slices.analysis;
            bytes = then_zeros (bytes_of_plan job (plan_of job)) slices.bytes;
          };
        }
    unfolding plan_written plan_done
    whole-way h =
        outcome-done plan_early plan_late plan_done plan_zero call slices (early-of ∙ p)
        (last-test ∙ (over-passes-iff (length slices.bytes) (length written) _).1 h)

    -- storing the bytes beside the analysis gives the outcome
    pub way-stored : {after : Lent} {found : Outcome PlanLent} → after ≡ holding_plan job (plan_of job) slices.analysis
        → all_zero after ≡ all_zero slices.analysis
        → found ≡ stored_beside (bytes_of_plan job (plan_of job)) (record { analysis = after; bytes = slices.bytes }) → found ≡ plan_written job slices
    way-stored {after} {found} h z e = go (below_or (length slices.bytes) (length written))
      where
        beside : PlanLent
        beside = record { analysis = after; bytes = slices.bytes }

        go : (length slices.bytes < length written) ⊎ (length written ≤ length slices.bytes) → found ≡ plan_written job slices
        go (inl l) = e ∙ beside-short written beside l ∙ rw z (sym (short-way l))
        go (inr l) = e ∙ beside-whole written beside l ∙ rw h (sym (whole-way l))
