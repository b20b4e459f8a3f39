-- Proves that the listing program prints the line of a refusal exactly when its conditions give that refusal, and else the listing. Text
-- and analysis are tested one after the other, and no two of these outcomes print the same.
-- Assumes nothing.
use mathlib.Core.Path.{◌≡◌, refl, sym, ap, ◌∙◌}
use mathlib.Core.Logic.{◌↔◌}
use mathlib.Core.List.{List, [], ◌++◌}
use Rattle.papers.specs.declared.Answer.{Answer}
use Rattle.papers.specs.Lists.{zeros}
use Rattle.papers.specs.Refusals.{Verdict, passed, refused, Refusal, first, Answered, Unrefused, Outcome}
use Rattle.papers.specs.Analysis.{Lent, AnalysisCall, analysis_early, analysis_late, analysis_done}
use Rattle.papers.specs.Text.{Input, text_job, text_refusals, refusal_line, buffers, job_printed, program_prints, program_refusals, program_listing}
use Rattle.papers.specs.Text.{ListingCall, listing_lengths, listing_early, listing_done, listed}
use Rattle.text_laws.proofs.Printed.{refusal-printed, text-refused, text-passed}
use Rattle.job_laws.proofs.Firsts.{refused-passed, one_answer, first-append-passed, first-append-refused, first_of}
use Rattle.refusal_laws.specs.Exactly.{Exactly}
use Rattle.refusal_laws.proofs.Agreements.{Agree, AgreeEach, ◌▸◌, answered-iff, passed-iff, append-agree, part-agree}
use Rattle.refusal_laws.proofs.Exactly.{outcome-exactly}
use Rattle.refusal_laws.proofs.Slices.{slices-agree}
use Rattle.refusal_laws.proofs.Analysis.{analysis-early-agree, analysis-late-agree, analyse-exactly}
use Rattle.text_answers.proofs.Text.{text-agree}
use Rattle.text_answers.proofs.Printed.{refusal-line-injective, listing-no-refusal}

-- ---- what is printed

-- the analysis of the text's job in the program's buffers
abbrev program_analysis : Input → AnalysisCall
program_analysis input = record { job = text_job input.text; lent = buffers }

-- the refusals of an analysis
abbrev analysis_refusals : List (Refusal AnalysisCall)
analysis_refusals = analysis_early ++ analysis_late

analysis-agree : (call : AnalysisCall) → AgreeEach analysis_refusals call
analysis-agree call = append-agree analysis_early analysis_late call (analysis-early-agree call) (λ p. analysis-late-agree call)

module _ (input : Input) where
  program-agree : AgreeEach program_refusals input
  program-agree =
      append-agree text_refusals _ input (text-agree input)
      (λ p. part-agree program_analysis analysis_refusals input (analysis-agree (program_analysis input)))

  -- if the text passes, the refusals of its analysis decide
  behind-text : first text_refusals input ≡ passed → first program_refusals input ≡ first analysis_refusals (program_analysis input)
  behind-text q = first-append-passed text_refusals _ input q ∙ first_of program_analysis analysis_refusals input

  prints-refusal : {a : Answer} → first program_refusals input ≡ refused a → program_prints input ≡ refusal_line a
  prints-refusal {a} e = go (first text_refusals input) refl
    where
      go : (v : Verdict) → first text_refusals input ≡ v → program_prints input ≡ refusal_line a
      go passed q =
          let agree = answered-iff analysis_refusals (program_analysis input) (analysis-agree (program_analysis input)) in
          let given = (agree.same a).0 (sym (behind-text q) ∙ e) in
          let some = agree.numbered a given in
          text-passed input q
          ∙ ap (job_printed (text_job input.text)) (((analyse-exactly (program_analysis input)).refused-iff a some).1 given)
          ∙ refusal-printed (text_job input.text) a some
      go (refused b) q = text-refused input q ∙ ap refusal_line (one_answer (first-append-refused text_refusals _ input q) e)

  prints-listing : first program_refusals input ≡ passed → program_prints input ≡ program_listing input
  unfolding analysis_done job_printed
  prints-listing p = go (first text_refusals input) refl
    where
      go : (v : Verdict) → first text_refusals input ≡ v → program_prints input ≡ program_listing input
      go passed q =
          let exact = analyse-exactly (program_analysis input) in
          let none = (passed-iff analysis_refusals (program_analysis input) (analysis-agree (program_analysis input))).0 (sym (behind-text q) ∙ p) in
          text-passed input q ∙ ap (λ (o : Outcome Lent). job_printed (text_job input.text) o.answered) (exact.when-done (exact.done-iff.1 none))
      go (refused b) q = absurd (refused-passed (first-append-refused text_refusals _ input q) p)

  -- the line of a refusal is printed exactly when the conditions give that refusal
  pub program-exactly : (a : Answer) → (program_prints input ≡ refusal_line a) ↔ Answered program_refusals input a
  program-exactly a = (λ e. there e (first program_refusals input) refl, λ r. prints-refusal ((given.same a).1 r))
    where
      given : Agree (first program_refusals input) (Answered program_refusals input)
      given = answered-iff program_refusals input program-agree

      there : program_prints input ≡ refusal_line a → (v : Verdict) → first program_refusals input ≡ v → Answered program_refusals input a
      there e passed q = absurd (listing-no-refusal _ _ a (sym (prints-listing q) ∙ e))
      there e (refused b) q = (given.same a).0 (rw (← refusal-line-injective b a (sym (prints-refusal q) ∙ e)) q)

  -- the listing is printed exactly when they give none
  pub program-done : (program_prints input ≡ program_listing input) ↔ Unrefused program_refusals input
  program-done = (λ e. there e (first program_refusals input) refl, λ u. prints-listing (none.1 u))
    where
      none : (first program_refusals input ≡ passed) ↔ Unrefused program_refusals input
      none = passed-iff program_refusals input program-agree

      there : program_prints input ≡ program_listing input → (v : Verdict) → first program_refusals input ≡ v → Unrefused program_refusals input
      there e passed q = none.0 q
      there e (refused b) q = absurd (listing-no-refusal _ _ b (sym e ∙ prints-refusal q))

-- ---- the listing into a lent slice

-- a listing is written, or refused with 7, exactly by its condition
pub listing-exactly : (call : ListingCall)
    → Exactly listing_early [] call call.bytes (zeros call.bytes) (listing_done call) (listed call.input call.bytes)
unfolding listed listing_done listing_early
listing-exactly call =
    outcome-exactly listing_early [] listing_done zeros call call.bytes (slices-agree (listing_lengths call) ▸ λ p. tt) (λ p. tt) (λ p. refl)
