-- Proves that what the listing program prints fits the listing's slice, whatever it reads: a refusal is one short line, and a listing is
-- that of a job within the program's sizes.
-- Assumes nothing.
use Prim.Native.Nat.{ℕ, ◌≤◌}
use mathlib.Core.Path.{◌≡◌, refl, sym, ap, ◌∙◌}
use native.Mathlib.Omega.{arith}
use lib.ListN.{length, length-replicate}
use Rattle.papers.specs.declared.Answer.{Answer}
use Rattle.papers.specs.Bounds.{program_columns, program_factor_rows, listing_bytes}
use Rattle.papers.specs.Lists.{flat}
use Rattle.papers.specs.Refusals.{answer, Verdict, passed, refused, first, Outcome}
use Rattle.papers.specs.Job.{Job, pattern}
use Rattle.papers.specs.Fill.{R}
use Rattle.papers.specs.Key.{lists_of}
use Rattle.papers.specs.Plan.{plan_of, plan_for}
use Rattle.papers.specs.Analysis.{Lent, all_zero, EarlyCall, early_refusals, early_of, AnalysisCall, analysis_early, analysis_late, analysis_done}
use Rattle.papers.specs.Analysis.{analysed}
use Rattle.papers.specs.Text.{head_of_text, text_job, Input, text_refusals, refusal_line, listing_of, buffers, job_printed, program_prints}
use Rattle.job_laws.specs.Passed.{Passed}
use Rattle.text_laws.proofs.LineTests.{head-columns}
use Rattle.text_laws.proofs.Printed.{refusal-printed, text-refused, text-passed}
use Rattle.job_laws.proofs.Firsts.{first-passed-iff, first_of, over-passes-iff}
use Rattle.job_laws.proofs.Passed.{passed-below}
use Rattle.job_laws.proofs.Outcomes.{outcome-early, outcome-late, outcome-done, early-passes-iff}
use Rattle.listing_laws.proofs.Lengths.{refusal-short}
use Rattle.listing_laws.proofs.Fits.{listing-fits}
use Rattle.listing_laws.proofs.Answers.{Small, SmallIn, early-small, late-small}
use Rattle.listing_laws.proofs.TextAnswers.{text-small, text-columns}

refusal-fits : (a : Answer) → Small a → length (refusal_line a) ≤ listing_bytes
refusal-fits a s = omega (arith, refusal-short a s.1 s.2 s.3)

module _ (input : Input) where
  abbrev job : Job
  job = text_job input.text

  abbrev call : AnalysisCall
  call = record { job = text_job input.text; lent = buffers }

  -- ---- what is printed

  -- an early refusal of the analysis prints its line
  early-printed : (a : Answer) → first analysis_early call ≡ refused a → Small a → job_printed job (analysed job buffers).answered ≡ refusal_line a
  unfolding analysed
  early-printed a e s =
      ap (λ (o : Outcome Lent). job_printed job o.answered) (outcome-early analysis_early analysis_late analysis_done all_zero call buffers e)
      ∙ refusal-printed job a s.0

  module _ (e : first analysis_early call ≡ passed) where
    -- and so does a late one
    late-printed : (a : Answer) → first analysis_late call ≡ refused a → Small a → job_printed job (analysed job buffers).answered ≡ refusal_line a
    unfolding analysed
    late-printed a f s =
        ap (λ (o : Outcome Lent). job_printed job o.answered) (outcome-late analysis_early analysis_late analysis_done all_zero call buffers e f)
        ∙ refusal-printed job a s.0

    -- if there is none, the listing is printed
    listing-printed : first analysis_late call ≡ passed → job_printed job (analysed job buffers).answered ≡ listing_of job (plan_of job).peak
    unfolding analysed analysis_done job_printed
    listing-printed f =
        ap (λ (o : Outcome Lent). job_printed job o.answered) (outcome-done analysis_early analysis_late analysis_done all_zero call buffers e f)

    -- ---- the sizes of a job that is listed

    job-passed : Passed job
    unfolding analysis_early
    job-passed = ((early-passes-iff (early_of job buffers)).0 (sym (first_of early early_refusals call) ∙ e)).0
      where
        early : AnalysisCall → EarlyCall
        early c = early_of c.job c.lent

  columns-few : first text_refusals input ≡ passed → (head_of_text input.text).head.n ≤ program_columns
  unfolding text_refusals
  columns-few e = head-columns input ((first-passed-iff text_refusals input).0 e).1.1.0

  rows_few : first analysis_late call ≡ passed → length (flat (lists_of job.n (R (pattern job)))) ≤ program_factor_rows
  unfolding analysis_late plan_of plan_for buffers
  rows_few f =
      let rows = length (flat (lists_of job.n (R (pattern job)))) in
      let fits = (over-passes-iff (length buffers.factor_rows) rows (answer 8 0 rows)).0 ((first-passed-iff analysis_late call).0 f).0 in
      omega (arith, fits, length-replicate {A = ℕ} program_factor_rows 0)

-- whatever is read, what is printed fits
pub program-fits : (input : Input) → length (program_prints input) ≤ listing_bytes
unfolding text_job plan_of plan_for
program-fits input = go (first text_refusals input) refl (text-small input)
  where
    listing : first text_refusals input ≡ passed → first analysis_early (call input) ≡ passed → first analysis_late (call input) ≡ passed
        → length (listing_of (text_job input.text) (plan_of (text_job input.text)).peak) ≤ listing_bytes
    listing e f g =
        let p = job-passed input f in
        listing-fits (text_job input.text) (passed-below (text_job input.text) p) (columns-few input e) p.marked (rows_few input g)

    late : first text_refusals input ≡ passed → first analysis_early (call input) ≡ passed → (v : Verdict) → first analysis_late (call input) ≡ v
        → SmallIn v
        → length (program_prints input) ≤ listing_bytes
    late e f passed g s = rw (text-passed input e, listing-printed input f g) (listing e f g)
    late e f (refused a) g s = rw (text-passed input e, late-printed input f a g s) (refusal-fits a s)

    early : first text_refusals input ≡ passed → (v : Verdict) → first analysis_early (call input) ≡ v → SmallIn v
        → length (program_prints input) ≤ listing_bytes
    early e passed f s = late e f (first analysis_late (call input)) refl (late-small (text_job input.text) buffers (job-passed input f))
    early e (refused a) f s = rw (text-passed input e, early-printed input a f s) (refusal-fits a s)

    go : (v : Verdict) → first text_refusals input ≡ v → SmallIn v → length (program_prints input) ≤ listing_bytes
    go (refused a) e s = rw (text-refused input e) (refusal-fits a s)
    go passed e s = early e (first analysis_early (call input)) refl (early-small (text_job input.text) buffers (text-columns input.text))
