-- Proves the outcome of a call from the verdicts of its early and late refusals; and what the answer to 1 to 6, and to 1 to 7, says of a
-- job and of lent slices.
-- Assumes nothing.
use mathlib.Core.Path.{◌≡◌, refl, sym, ap, ◌∙◌}
use mathlib.Core.Logic.{◌↔◌, ◌≢◌}
use mathlib.Core.Bool.{true, false}
use mathlib.Core.List.{List, []}
use native.Mathlib.Omega.{arith}
use Rattle.papers.specs.declared.Answer.{Answer}
use Rattle.papers.specs.Refusals.{answer, Verdict, passed, refused, answer_of, Refusal, of, first, Outcome, outcome}
use Rattle.papers.specs.Job.{Job, job_refusals}
use Rattle.papers.specs.Analysis.{some_short, LongEnough, EarlyCall, early_refusals}
use Rattle.list_laws.proofs.Tests.{Test, passes, fails, test}
use Rattle.job_laws.specs.Passed.{Passed}
use Rattle.job_laws.proofs.Firsts.{refused-by, first-append-passed, first-append-refused, append-passed-iff, first_of, first-last}
use Rattle.job_laws.proofs.Firsts.{answer-refused, answer-passed}
use Rattle.job_laws.proofs.Numbered.{job-numbered, numbered-zero}
use Rattle.job_laws.proofs.Passed.{passes-iff}
use Rattle.job_laws.proofs.Lengths.{long-iff, lengths-pass-iff, lengths-refuse}

module _ {C S : Type 0} (early late : List (Refusal C)) (done : C → Outcome S) (zeroing : S → S) (call : C) (lent : S) where
  -- an early refusal leaves the lent slices as they were
  pub outcome-early : {a : Answer} → first early call ≡ refused a → outcome early late done zeroing call lent ≡ record { answered = a; lent = lent }
  unfolding outcome
  outcome-early e = rw (e, outcome)

  -- a late one leaves them zero
  pub outcome-late : {a : Answer} → first early call ≡ passed → first late call ≡ refused a
      → outcome early late done zeroing call lent ≡ record { answered = a; lent = zeroing lent }
  unfolding outcome
  outcome-late p e = rw (p, outcome, e, outcome)

  -- if there is none, the call is done
  pub outcome-done : first early call ≡ passed → first late call ≡ passed → outcome early late done zeroing call lent ≡ done call
  unfolding outcome
  outcome-done p e = rw (p, outcome, e, outcome)

  -- if there is no early one, the late ones decide
  pub outcome-behind : first early call ≡ passed → outcome early late done zeroing call lent ≡ outcome [] late done zeroing call lent
  unfolding outcome first
  outcome-behind p = rw (p, outcome)

-- ---- refusals of a job before others

-- a job that is answered 0 passes
pub job-answered : (job : Job) {r : Answer} → r ≡ answer_of (first job_refusals job) → r.number ≡ 0 → Passed job
job-answered job {r} e z = (passes-iff job).0 (numbered-zero (first job_refusals job) (job-numbered job) r e z)

module _ {C : Type 0} (part : C → Job) (call : C) where
  -- a job that is refused is refused by any call on it
  pub job-refuses : {r : Answer} → r ≡ answer_of (first job_refusals (part call)) → r.number ≢ 0 → first (of part job_refusals) call ≡ refused r
  job-refuses e n = first_of part job_refusals call ∙ refused-by e n

  pub job-passes-iff : (first (of part job_refusals) call ≡ passed) ↔ Passed (part call)
  job-passes-iff =
      let same = first_of part job_refusals call in
      let i = passes-iff (part call) in
      (λ e. i.0 (sym same ∙ e), λ p. same ∙ i.1 p)

-- ---- 1 to 7

-- a job and slices that pass 1 to 7
pub early-passes-iff : (call : EarlyCall) → (first early_refusals call ≡ passed) ↔ (Passed call.job × LongEnough call.slices)
unfolding early_refusals
early-passes-iff call =
    let both = append-passed-iff _ _ call in
    let job = job-passes-iff (λ (call : EarlyCall). call.job) call in
    let lengths = lengths-pass-iff call.slices in
    let one = first-last _ call in (
      λ e. let (p, q) = both.0 e in (job.0 p, lengths.0 (sym one ∙ q)),
      λ (p, l). both.1 (job.1 p, one ∙ lengths.1 l),
    )

-- what tests 1 to 7 answers their refusal, or 0
pub early-job : (call : EarlyCall) {r : Answer} → r ≡ answer_of (first job_refusals call.job) → r.number ≢ 0
    → r ≡ answer_of (first early_refusals call)
unfolding early_refusals
early-job call e n = answer-refused (first-append-refused _ _ call (job-refuses (λ (call : EarlyCall). call.job) call e n)) refl

pub early-short : (call : EarlyCall) {r : Answer} → Passed call.job → some_short call.slices ≡ true → r ≡ answer 7 0 0
    → r ≡ answer_of (first early_refusals call)
unfolding early_refusals
early-short call p s e =
    answer-refused
    (first-append-passed _ _ call ((job-passes-iff (λ (call : EarlyCall). call.job) call).1 p) ∙ first-last _ call ∙ lengths-refuse call.slices s)
    e

pub early-none : (call : EarlyCall) {r : Answer} → Passed call.job → some_short call.slices ≡ false → r ≡ answer 0 0 0
    → r ≡ answer_of (first early_refusals call)
early-none call p s e = answer-passed ((early-passes-iff call).1 (p, (long-iff call.slices).0 s)) e

-- a call that is refused early, and one that is not, by the answer
module _ (call : EarlyCall) {r : Answer} (e : r ≡ answer_of (first early_refusals call)) where
  pub early-refused : r.number ≢ 0 → first early_refusals call ≡ refused r
  early-refused n = refused-by e n

  pub early-passed : r.number ≡ 0 → Passed call.job × LongEnough call.slices
  unfolding early_refusals answer_of
  early-passed z = (early-passes-iff call).0 (go (first job_refusals call.job) refl (test (some_short call.slices)))
    where
      number : r.number ≡ (answer_of (first early_refusals call)).number
      number = ap (λ (a : Answer). a.number) e

      go : (v : Verdict) → first job_refusals call.job ≡ v → Test (some_short call.slices) → first early_refusals call ≡ passed
      go (refused a) q t =
          let some = (rw q at (job-numbered call.job)).0 in
          let same = early-job call {r = a} (rw q) (λ x. omega arith) in
          absurd (omega (arith, number, ap (λ (a : Answer). a.number) same))
      go passed q (passes t) =
          let same = early-short call {r = answer 7 0 0} ((passes-iff call.job).0 q) t refl in
          absurd (omega (arith, number, ap (λ (a : Answer). a.number) same))
      go passed q (fails t) = (early-passes-iff call).1 ((passes-iff call.job).0 q, (long-iff call.slices).0 t)
