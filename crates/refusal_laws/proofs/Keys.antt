-- Proves that two keys that were written are the same exactly when their jobs agree in all that a key says: size, rows, mark and limit.
-- Assumes nothing.
use mathlib.Core.Path.{◌≡◌, refl, sym, ◌∙◌}
use mathlib.Core.Logic.{◌↔◌}
use mathlib.Core.List.{◌++◌}
use Rattle.papers.specs.Key.{key_of}
use Rattle.papers.specs.Analysis.{KeyCall, key_early, key_late, key_done, key_written}
use Rattle.refusal_laws.specs.Written.{written_key}
use Rattle.list_laws.proofs.Stores.{take-then-zeros}
use Rattle.job_laws.specs.Passed.{Passed}
use Rattle.job_laws.specs.Same.{SameJob}
use Rattle.job_laws.proofs.Firsts.{append-passed-iff}
use Rattle.job_laws.proofs.Outcomes.{job-passes-iff}
use Rattle.job_laws.proofs.Keys.{key-same-iff}
use Rattle.refusal_laws.proofs.Agreements.{passed-iff, append-agree}
use Rattle.refusal_laws.proofs.Analysis.{key-early-agree, key-late-agree, key-exactly}

module _ (call : KeyCall) (done : (key_written call.job call.bytes).answered.number ≡ 0) where
  -- a job whose key was written passes its tests
  written-passes : Passed call.job
  unfolding key_early
  written-passes =
      let agree = append-agree key_early key_late call (key-early-agree call) (λ p. key-late-agree call) in
      let passes = (passed-iff (key_early ++ key_late) call agree).1 ((key-exactly call).done-iff.0 done) in
      (job-passes-iff (λ (call : KeyCall). call.job) call).0 ((append-passed-iff key_early key_late call).0 passes).0

  -- that part is the key
  written_is : written_key call ≡ key_of call.job
  unfolding key_done
  written_is = rw ((key-exactly call).when-done done) (take-then-zeros (key_of call.job) call.bytes refl)

-- two calls that are done write the same exactly when their jobs agree in size, mark, limit and the pattern rows of each column
pub written-keys-same-iff : (a b : KeyCall) → (key_written a.job a.bytes).answered.number ≡ 0 → (key_written b.job b.bytes).answered.number ≡ 0
    → (written_key a ≡ written_key b) ↔ SameJob a.job b.job
written-keys-same-iff a b p q =
    let i = key-same-iff a.job b.job (written-passes a p) (written-passes b q) in
    let x = written_is a p in
    let y = written_is b q in
    (λ e. i.0 (sym x ∙ e ∙ y), λ s. x ∙ i.1 s ∙ sym y)
