-- Proves a test that names the first place at fault, of 1 to n. It passes exactly when no place has a fault; else it refuses with the
-- answer for the fault of the least. The rows of a job, the steps of a run and the lines of a text are tested so.
-- Assumes nothing.
use Prim.Native.Nat.{ℕ, zero, suc, ◌<◌, ◌≤◌}
use mathlib.Core.Path.{◌≡◌, refl, sym, ap, ◌∙◌}
use mathlib.Core.Logic.{◌↔◌}
use mathlib.Core.Bool.{Bool}
use native.Mathlib.Omega.{arith}
use lib.Dec.{ltb}
use borrow.Author.Tests.{ltb-true, ltb-false, lt-ltb, le-ltb}
use Rattle.papers.specs.Lists.{least}
use Rattle.papers.specs.declared.Answer.{Answer}
use Rattle.papers.specs.Refusals.{Verdict, passed, refused, fault_test}
use Rattle.list_laws.proofs.Leasts.{least-none, least-here, least-zero-iff, least-found-iff, least-same}
use Rattle.job_laws.proofs.Firsts.{refused-passed}

-- tests whether place k has a fault
abbrev pub faulty : (ℕ → ℕ) → ℕ → Bool
faulty fault k = ltb 0 (fault k)

module _ (fault : ℕ → ℕ) where
  -- one more place without a fault
  pub faults-next : (k : ℕ) → least (faulty fault) k ≡ 0 → fault (suc k) ≡ 0 → least (faulty fault) (suc k) ≡ 0
  faults-next k z e = least-none (faulty fault) k z (le-ltb 0 (fault (suc k)) (omega arith))

  faults-none-iff : (n : ℕ) → (least (faulty fault) n ≡ 0) ↔ ((k : ℕ) → 1 ≤ k → k ≤ n → fault k ≡ 0)
  faults-none-iff n =
      let i = least-zero-iff (faulty fault) n in
      (λ z k l h. omega (arith, ltb-false 0 (fault k) (i.0 z k l h)), λ g. i.1 (λ k l h. le-ltb 0 (fault k) (omega (arith, g k l h))))

  module _ (n : ℕ) (given : ℕ → ℕ → Answer) where
    pub faults-pass : least (faulty fault) n ≡ 0 → fault_test fault n given ≡ passed
    unfolding fault_test
    faults-pass z = rw (z, fault_test)

    -- a place is found: the verdict is the answer for its fault
    pub faults-found : (k : ℕ) → least (faulty fault) n ≡ suc k → fault_test fault n given ≡ refused (given (fault (suc k)) (suc k))
    unfolding fault_test
    faults-found k e = rw (e, fault_test)

    -- the first place with a fault is named
    pub faults-refuse : (k : ℕ) → least (faulty fault) k ≡ 0 → suc k ≤ n → 0 < fault (suc k)
        → fault_test fault n given ≡ refused (given (fault (suc k)) (suc k))
    faults-refuse k z l h = faults-found k (least-here (faulty fault) k n z (lt-ltb 0 (fault (suc k)) h) l)

    -- what holds of passing, and of the refusal of each place, holds of the verdict
    pub faults-each : (P : Verdict → Type 0) → P passed → ((k : ℕ) → 1 ≤ k → k ≤ n → 0 < fault k → P (refused (given (fault k) k)))
        → P (fault_test fault n given)
    faults-each P p h = go (least (faulty fault) n) refl
      where
        go : (m : ℕ) → least (faulty fault) n ≡ m → P (fault_test fault n given)
        go zero e = rw (faults-pass e) p
        go (suc k) e =
            let f = (least-found-iff (faulty fault) n k).0 e in
            rw (faults-found k e) (h (suc k) (omega arith) f.0 (ltb-true 0 (fault (suc k)) f.1))

    -- the test passes exactly when no place has a fault
    pub faults-passed-iff : (fault_test fault n given ≡ passed) ↔ ((k : ℕ) → 1 ≤ k → k ≤ n → fault k ≡ 0)
    faults-passed-iff = (λ e. (faults-none-iff n).0 (there e (least (faulty fault) n) refl), λ h. faults-pass ((faults-none-iff n).1 h))
      where
        there : fault_test fault n given ≡ passed → (m : ℕ) → least (faulty fault) n ≡ m → least (faulty fault) n ≡ 0
        there e zero q = q
        there e (suc k) q = absurd (refused-passed (faults-found k q) e)

-- the same faults have the same verdict
pub faults-same : (fault fault' : ℕ → ℕ) (n : ℕ) (given : ℕ → ℕ → Answer) → ((k : ℕ) → 1 ≤ k → k ≤ n → fault k ≡ fault' k)
    → fault_test fault n given ≡ fault_test fault' n given
faults-same fault fault' n given same = go (least (faulty fault') n) refl
  where
    leasts : least (faulty fault) n ≡ least (faulty fault') n
    leasts = least-same (faulty fault) (faulty fault') n (λ k l h. ap (ltb 0) (same k l h))

    go : (p : ℕ) → least (faulty fault') n ≡ p → fault_test fault n given ≡ fault_test fault' n given
    go zero e = faults-pass fault n given (leasts ∙ e) ∙ sym (faults-pass fault' n given e)
    go (suc k) e =
        let l = ((least-found-iff (faulty fault') n k).0 e).0 in
        faults-found fault n given k (leasts ∙ e) ∙ (rw (same (suc k) (omega arith) l) (sym (faults-found fault' n given k e)))
