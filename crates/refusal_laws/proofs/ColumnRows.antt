-- Proves that the test of a column's rows finds the fault of the first row that has one, in reading order, and that every row before it is
-- fine.
-- Assumes nothing.
use Prim.Native.Nat.{ℕ, zero, suc, ◌<◌}
use mathlib.Core.Path.{◌≡◌, refl, sym, ◌∙◌}
use mathlib.Core.Logic.{◌↔◌}
use mathlib.Core.List.{List, [], ◌∷◌}
use native.Mathlib.Omega.{arith}
use lib.ListN.{length, get_or}
use Rattle.papers.specs.Job.{fault_of_row, fault_of_rows}
use Rattle.list_laws.proofs.Tests.{Compare, below, level, above, compare}
use Rattle.job_laws.proofs.Rows.{rows-fault, rows_next}

module _ (n j : ℕ) where
  -- the fault of row k of rows behind row `before`
  abbrev pub fault_of : ℕ → List ℕ → ℕ → ℕ
  fault_of before rs k = fault_of_row n j (get_or (before ∷ rs) k 0) (get_or rs k 0)

  -- what the test finds in the rows, with what that says of each row
  data Scan (before : ℕ) (rs : List ℕ) : Type 0 where
    fine : fault_of_rows n j before rs ≡ 0 → ((k : ℕ) → k < length rs → fault_of before rs k ≡ 0) → Scan before rs
    fault : (k f : ℕ) → fault_of_rows n j before rs ≡ suc f → k < length rs → fault_of before rs k ≡ suc f → ((i : ℕ) → i < k → fault_of before rs i ≡ 0)
        → Scan before rs

  scan : (before : ℕ) (rs : List ℕ) → Scan before rs
  unfolding fault_of_rows
  scan before [] = fine refl (λ k l. absurd (omega arith))
  scan before (r ∷ rs) = go (fault_of_row n j before r) refl (scan r rs)
    where
      also : (b : ℕ) → fault_of_row n j before r ≡ 0 → ((i : ℕ) → i < b → fault_of r rs i ≡ 0) → (i : ℕ) → i < suc b → fault_of before (r ∷ rs) i ≡ 0
      also b e h zero l = e
      also b e h (suc i) l = h i (omega arith)

      go : (g : ℕ) → fault_of_row n j before r ≡ g → Scan r rs → Scan before (r ∷ rs)
      go zero e (fine q h) = fine (rows_next n j before r rs e ∙ q) (also (length rs) e h)
      go zero e (fault k f q l x h) = fault (suc k) f (rows_next n j before r rs e ∙ q) (omega arith) x (also k e h)
      go (suc g) e s = fault 0 g (rows-fault n j before r rs (omega arith) ∙ e) (omega arith) e (λ i l. absurd (omega arith))

  pub fault-iff : (before : ℕ) (rs : List ℕ) (f : ℕ)
      → (fault_of_rows n j before rs ≡ suc f) ↔ ((k : ℕ) × (k < length rs) × (fault_of before rs k ≡ suc f) × ((i : ℕ) → i < k → fault_of before rs i ≡ 0))
  fault-iff before rs f = (λ e. there e (scan before rs), λ h. back h (scan before rs))
    where
      At : Type 0
      At = (k : ℕ) × (k < length rs) × (fault_of before rs k ≡ suc f) × ((i : ℕ) → i < k → fault_of before rs i ≡ 0)

      there : fault_of_rows n j before rs ≡ suc f → Scan before rs → At
      there e (fine q h) = absurd (omega arith)
      there e (fault k g q l x h) = (k, l, omega arith, h)

      meet : (k g : ℕ) → fault_of_rows n j before rs ≡ suc g → fault_of before rs k ≡ suc g → ((i : ℕ) → i < k → fault_of before rs i ≡ 0) → (h : At)
          → Compare k h.0
          → fault_of_rows n j before rs ≡ suc f
      meet k g q x m h (below l) = absurd (omega (arith, h.3 k l))
      meet k g q x m h (level e) = q ∙ sym x ∙ rw e h.2
      meet k g q x m h (above l) = absurd (omega (arith, m h.0 l, h.2))

      back : At → Scan before rs → fault_of_rows n j before rs ≡ suc f
      back h (fine q m) = absurd (omega (arith, m h.0 h.1, h.2))
      back h (fault k g q l x m) = meet k g q x m h (compare k h.0)
