-- Proves that the tests of a job and of the lengths of the slices, made one after the other, are the tests 1 to 7.
-- Assumes nothing.
use Rattle.std.proofs.Common.{◌≡◌, sym, ◌∙◌, true, false}
use Rattle.papers.specs.declared.Answer.{Answer}
use Rattle.papers.specs.Refusals.{answer, passed, refused, first}
use Rattle.papers.specs.Job.{job_refusals}
use Rattle.papers.specs.Analysis.{some_short, EarlyCall, early_refusals}
use Rattle.job_laws.proofs.Firsts.{first-append-passed, first-append-refused, first_of, first-last}
use Rattle.job_laws.proofs.Outcomes.{early-passes-iff}
use Rattle.job_laws.proofs.Passed.{passes-iff}
use Rattle.job_laws.proofs.Lengths.{long-iff, lengths-refuse}

module _ (call : EarlyCall) where
  -- a refused job
  pub early-job : {a : Answer} → refused a ≡ first job_refusals call.job → refused a ≡ first early_refusals call
  unfolding early_refusals
  early-job e = sym (first-append-refused _ _ call (first_of (λ (call : EarlyCall). call.job) job_refusals call ∙ sym e))

  module _ (e : passed ≡ first job_refusals call.job) where
    -- a slice that is too short
    pub early-short : some_short call.slices ≡ true → refused (answer 7 0 0) ≡ first early_refusals call
    unfolding early_refusals
    early-short s =
        sym (first-append-passed _ _ call (first_of (λ (call : EarlyCall). call.job) job_refusals call ∙ sym e) ∙ first-last _ call
        ∙ lengths-refuse call.slices s)

    -- neither
    pub early-none : some_short call.slices ≡ false → passed ≡ first early_refusals call
    early-none s = sym ((early-passes-iff call).1 ((passes-iff call.job).0 (sym e), (long-iff call.slices).0 s))
