-- Proves that the solver's call answers exactly by its conditions: 27 and 26 by their tests, any other number by the check for the job of
-- the key.
-- Assumes nothing.
use Prim.Native.Nat.{◌<◌}
use mathlib.Core.Path.{◌≡◌, refl, sym, ap, subst, ◌∙◌}
use mathlib.Core.Logic.{◌↔◌, inl, inr}
use mathlib.Core.List.{◌++◌}
use native.Mathlib.Omega.{arith}
use Rattle.papers.specs.declared.Answer.{Answer}
use Rattle.papers.specs.Refusals.{Verdict, passed, refused, first, Outcome, Answered}
use Rattle.papers.specs.Job.{Job}
use Rattle.papers.specs.Numbers.{Bytes}
use Rattle.papers.specs.Key.{Readable}
use Rattle.papers.specs.Analysis.{Lent}
use Rattle.papers.specs.Check.{check_early, check_late, checked}
use Rattle.papers.specs.Text.{buffers}
use Rattle.papers.specs.Call.{SolverCall, call_refusals, solver_answer, solver_check, SolverRefused, called}
use Rattle.job_laws.proofs.Firsts.{refused-passed, one_answer, append-passed-iff}
use Rattle.job_laws.proofs.Readable.{readable-one}
use Rattle.refusal_laws.proofs.Agreements.{no-answer-iff, answered-iff, passed-iff, append-agree}
use Rattle.call_laws.proofs.Called.{call-refused}
use Rattle.check_laws.proofs.Check.{check-early-agree, check-late-agree, early-passes, check-exactly, done-zero}
use Rattle.call_answers.proofs.CallTests.{call-agree, call-checked}

module _ (call : SolverCall) (key-bytes : Bytes call.key) (plan-bytes : Bytes call.plan) where
  -- the conditions of the check for a job
  abbrev ByCheck : Job → Answer → Type 0
  ByCheck job a = Answered (check_early ++ check_late) (solver_check call job) a

  -- a readable key belongs to one job
  moved : (s r : Readable call.key) (a : Answer) → ByCheck s.job a → ByCheck r.job a
  moved s r a k = subst (λ (job : Job). ByCheck job a) (readable-one call.key s r) k

  -- the call answers a number with its place exactly when the condition of that number gives it, and no condition before does
  pub call-exactly : (a : Answer) → 0 < a.number → (solver_answer call ≡ a) ↔ SolverRefused call a
  call-exactly a h = go (first call_refusals call) refl
    where
      go : (v : Verdict) → first call_refusals call ≡ v → (solver_answer call ≡ a) ↔ SolverRefused call a
      go passed q =
          let (r, c) = call-checked call key-bytes q in
          let exact = (check-exactly (solver_check call r.job) plan-bytes).refused-iff a h in
          (λ e. inr ((passed-iff call_refusals call (call-agree call key-bytes)).0 q, (r, exact.0 (sym c ∙ e))), back r c exact)
        where
          back : (r : Readable call.key) → solver_answer call ≡ (checked r.job call.plan buffers).answered
              → ((checked r.job call.plan buffers).answered ≡ a) ↔ ByCheck r.job a → SolverRefused call a → solver_answer call ≡ a
          back r c exact (inl k) = absurd (refused-passed (((answered-iff call_refusals call (call-agree call key-bytes)).same a).1 k) q)
          back r c exact (inr (u, (s, k))) = c ∙ exact.1 (moved s r a k)
      go (refused b) q = (λ e. inl (given.0 (rw (← (sym (call-refused call q) ∙ e)) q)), back)
        where
          given : (first call_refusals call ≡ refused a) ↔ Answered call_refusals call a
          given = (answered-iff call_refusals call (call-agree call key-bytes)).same a

          back : SolverRefused call a → solver_answer call ≡ a
          back (inl k) = call-refused call q ∙ one_answer q (given.1 k)
          back (inr (u, x)) = absurd (refused-passed q ((passed-iff call_refusals call (call-agree call key-bytes)).1 u))

  -- the plan passes exactly when no condition gives anything
  pub call-done : ((solver_answer call).number ≡ 0) ↔ ((a : Answer) → ¬ SolverRefused call a)
  call-done = (λ e a x. absurd (refuted e a x), λ none. go none (first call_refusals call) refl)
    where
      numbered : (a : Answer) → SolverRefused call a → 0 < a.number
      numbered a (inl k) = (answered-iff call_refusals call (call-agree call key-bytes)).numbered a k
      numbered a (inr (u, (r, k))) =
          (answered-iff (check_early ++ check_late) (solver_check call r.job)
          (append-agree check_early check_late (solver_check call r.job) (check-early-agree (solver_check call r.job))
          (λ p. check-late-agree (solver_check call r.job) plan-bytes (early-passes (solver_check call r.job) p)))
          ).numbered a k

      refuted : (solver_answer call).number ≡ 0 → (a : Answer) → SolverRefused call a → ⊥
      refuted e a x =
          let h = numbered a x in
          omega (arith, e, ap (λ (b : Answer). b.number) ((call-exactly a h).1 x))

      go : ((a : Answer) → ¬ SolverRefused call a) → (v : Verdict) → first call_refusals call ≡ v → (solver_answer call).number ≡ 0
      go none passed q =
          let (r, c) = call-checked call key-bytes q in
          let u = (passed-iff call_refusals call (call-agree call key-bytes)).0 q in
          let exact = check-exactly (solver_check call r.job) plan-bytes in
          ap (λ (a : Answer). a.number) c
          ∙ exact.done-iff.1 ((no-answer-iff (check_early ++ check_late) (solver_check call r.job)).0 (λ b k. none b (inr (u, (r, k)))))
      go none (refused b) q = absurd (none b (inl (((answered-iff call_refusals call (call-agree call key-bytes)).same b).0 q)))

  -- a call that is done has place 0
  done_at : (solver_answer call).number ≡ 0 → (solver_answer call).place ≡ 0
  done_at e = go (first call_refusals call) refl
    where
      go : (v : Verdict) → first call_refusals call ≡ v → (solver_answer call).place ≡ 0
      go (refused b) q = absurd (call-done.0 e b (inl (((answered-iff call_refusals call (call-agree call key-bytes)).same b).0 q)))
      go passed q =
          let (r, c) = call-checked call key-bytes q in
          let check = solver_check call r.job in
          let exact = check-exactly check plan-bytes in
          let n = sym (ap (λ (a : Answer). a.number) c) ∙ e in
          let agree = append-agree check_early check_late check (check-early-agree check)
          (λ p. check-late-agree check plan-bytes (early-passes check p)) in
          let p = ((append-passed-iff check_early check_late check).0 ((passed-iff _ check agree).1 (exact.done-iff.0 n))).1 in
          ap (λ (a : Answer). a.place) c ∙ ap (λ (o : Outcome Lent). o.answered.place) (exact.when-done n) ∙ (done-zero check p).1

  -- the one number is 0 exactly when no condition gives anything
  pub called-zero-iff : (called call.key call.plan ≡ 0) ↔ ((a : Answer) → ¬ SolverRefused call a)
  unfolding called
  called-zero-iff = (λ e. call-done.0 (omega (arith, e)), λ u. let z = call-done.1 u in omega (arith, z, done_at z))
