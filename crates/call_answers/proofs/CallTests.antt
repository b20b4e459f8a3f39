-- Proves that the tests 27 and 26 of the solver's call agree with their conditions. A key is readable exactly when it reads through, and
-- then it is the key of one job only. So the tests, which use the reading, agree with conditions about any job that has this key.
-- Assumes nothing.
use Prim.Native.Nat.{ℕ, ◌<◌}
use mathlib.Core.Path.{◌≡◌, refl, ◌∙◌}
use mathlib.Core.Logic.{◌⊎◌, inl, inr}
use mathlib.Core.Bool.{◌||◌}
use native.Mathlib.Omega.{arith}
use lib.Dec.{ltb}
use lib.ListN.{length}
use Rattle.papers.specs.declared.Answer.{Answer}
use Rattle.papers.specs.Bounds.{program_columns, program_rows}
use Rattle.papers.specs.Refusals.{answer, passed, first, refused_if, refused}
use Rattle.papers.specs.Job.{Job}
use Rattle.papers.specs.Numbers.{Read, got, bad, Bytes}
use Rattle.papers.specs.Key.{Readable, key_read_from}
use Rattle.papers.specs.Check.{checked}
use Rattle.papers.specs.Text.{buffers}
use Rattle.papers.specs.Call.{SolverCall, readable_test, sizes_test, call_refusals, key_checked, solver_answer, sizes_over, unreadable}
use Rattle.bytes_laws.proofs.Fields.{got-bad}
use Rattle.job_laws.proofs.Readable.{readable-read, readable-one, readable-iff}
use Rattle.refusal_laws.proofs.Agreements.{Agree, agree_same, agree-by, AgreeEach, ◌▸◌, passed-iff}
use Rattle.refusal_laws.proofs.Tests.{below-iff, either-iff, agree-if}

module _ (call : SolverCall) (bytes : Bytes call.key) where
  -- the key reads through as the key of a job, or it is unreadable
  data Key : Type 0 where
    reads : (r : Readable call.key) → key_read_from call.key ≡ got r.job (length call.key) → Key
    stops : (number place : ℕ) → key_read_from call.key ≡ bad number place → ¬ Readable call.key → Key

  key : Key
  key = go (key_read_from call.key) refl
    where
      go : (x : Read Job) → key_read_from call.key ≡ x → Key
      go (got job at) e = let r = (readable-iff call.key bytes).1 (job, at, e) in reads r (readable-read call.key r)
      go (bad number place) e = stops number place e (λ r. got-bad (readable-read call.key r) e)

  -- the test of 27 agrees with its condition
  readable-agree : Agree (readable_test call) (unreadable.gives call)
  unfolding readable_test
  readable-agree = agree-by _ _ (λ a h. (gives a h key, rw h.1 (omega arith))) (go key)
    where
      gives : (a : Answer) → unreadable.gives call a → Key → readable_test call ≡ refused a
      gives a h (reads r e) = absurd (h.0 r)
      gives a h (stops number place e n) = rw (h.1, e, readable_test)

      go : Key → (readable_test call ≡ passed) ⊎ ((a : Answer) × unreadable.gives call a)
      go (reads r e) = inl (rw (e, readable_test))
      go (stops number place e n) = inr (answer 27 0 0, (n, refl))

  -- the test of 26 agrees with its condition
  sizes-agree : Agree (sizes_test call) (sizes_over.gives call)
  unfolding sizes_test
  sizes-agree = go key
    where
      Over : Job → Answer → Type 0
      Over job a = ((program_columns < job.n) ⊎ (program_rows < length job.rows)) × (a ≡ answer 26 0 0)

      sizes-iff : (job : Job) → Agree (refused_if (ltb program_columns job.n || ltb program_rows (length job.rows)) (answer 26 0 0)) (Over job)
      sizes-iff job = agree-if _ _ (omega arith) (either-iff _ _ (below-iff program_columns job.n) (below-iff program_rows (length job.rows)))

      go : Key → Agree (sizes_test call) (sizes_over.gives call)
      go (reads r e) =
          rw (e, sizes_test)
          (agree_same _ (sizes-iff r.job) (λ a. (λ (p, q). (r, p, q), λ (s, p, q). (rw (readable-one call.key s r) at p, q))))
      go (stops number place e n) = agree-by _ _ (λ a h. absurd (n h.0)) (inl (rw (e, sizes_test)))

  pub call-agree : AgreeEach call_refusals call
  unfolding call_refusals
  call-agree = readable-agree ▸ λ p. sizes-agree ▸ λ p. tt

  call-passed : first call_refusals call ≡ passed → solver_answer call ≡ key_checked call
  unfolding solver_answer
  call-passed p = rw (p, solver_answer)

  pub call-checked : first call_refusals call ≡ passed → (r : Readable call.key) × (solver_answer call ≡ (checked r.job call.plan buffers).answered)
  unfolding key_checked call_refusals
  call-checked p = go key
    where
      go : Key → (r : Readable call.key) × (solver_answer call ≡ (checked r.job call.plan buffers).answered)
      go (reads r e) = (r, call-passed p ∙ rw (e, key_checked))
      go (stops number place e n) = absurd (((passed-iff call_refusals call call-agree).0 p).0 (answer 27 0 0) (n, refl))
