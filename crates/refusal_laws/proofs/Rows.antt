-- Proves that the test of the rows (5 and 6) agrees with its condition. It reads the rows in reading order, so the fault that it names is
-- that of the first row with one.
-- Assumes nothing.
use Prim.Native.Nat.{ℕ, zero, suc, ◌-◌, ◌<◌, ◌≤◌}
use mathlib.Core.Path.{◌≡◌, refl}
use mathlib.Core.Logic.{◌↔◌, ◌⊎◌, inl, inr}
use native.Mathlib.Omega.{arith}
use lib.ListN.{length}
use Rattle.papers.specs.Refusals.{answer}
use Rattle.papers.specs.Job.{column_of, column_fault, RowLists, row_of, IsRow, Outside, NotAbove, FineBefore, five, six, FaultyColumn, bad_row}
use Rattle.list_laws.proofs.Tests.{below_or}
use Rattle.job_laws.proofs.Rows.{row_low, row-over, row-falls, row_fine}
use Rattle.refusal_laws.proofs.Agreements.{Agree}
use Rattle.refusal_laws.proofs.Tests.{Faults, agree-faults}
use Rattle.refusal_laws.proofs.ColumnRows.{fault_of, fault-iff}

module _ (c : RowLists) where
  -- row k of column j has neither fault
  abbrev RowFine : ℕ → ℕ → Type 0
  RowFine j k = (¬ Outside c j k) × (¬ NotAbove c j k)

  -- the fault of row k of column j
  abbrev row_fault_at : ℕ → ℕ → ℕ
  row_fault_at j k = fault_of c.n j j (column_of c.starts c.rows j) k

  -- a row is outside its range, or not above the one before it, or fine
  data RowIs (j k : ℕ) : Type 0 where
    outside : row_fault_at j k ≡ 5 → Outside c j k → RowIs j k
    fallen : row_fault_at j k ≡ 6 → ¬ Outside c j k → NotAbove c j k → RowIs j k
    clear : row_fault_at j k ≡ 0 → RowFine j k → RowIs j k

  row_is : (j k : ℕ) → RowIs j k
  row_is j k = go k (below_or j (row_of c j k)) (below_or c.n (row_of c j k))
    where
      inside : (k : ℕ) → j < row_of c j k → row_of c j k ≤ c.n → ¬ Outside c j k
      inside k a b (inl h) = omega arith
      inside k a b (inr h) = omega arith

      behind : (k : ℕ) → j < row_of c j (suc k) → row_of c j (suc k) ≤ c.n → (row_of c j k < row_of c j (suc k)) ⊎ (row_of c j (suc k) ≤ row_of c j k)
          → RowIs j (suc k)
      behind k a b (inl d) =
          clear (row_fine c.n j _ (row_of c j (suc k)) a b d)
          (inside (suc k) a b, λ h. let e : suc k - 1 ≡ k = omega arith in omega (arith, rw e at h.1))
      behind k a b (inr d) =
          let e : suc k - 1 ≡ k = omega arith in fallen (row-falls c.n j _ (row_of c j (suc k)) a b d) (inside (suc k) a b) (omega arith, rw e d)

      go : (k : ℕ) → (j < row_of c j k) ⊎ (row_of c j k ≤ j) → (c.n < row_of c j k) ⊎ (row_of c j k ≤ c.n) → RowIs j k
      go k (inr a) b = outside (row_low c.n j _ (row_of c j k) a) (inl a)
      go k (inl a) (inl b) = outside (row-over c.n j _ (row_of c j k) a b) (inr b)
      go zero (inl a) (inr b) = clear (row_fine c.n j j (row_of c j 0) a b a) (inside 0 a b, λ h. omega (arith, h.0))
      go (suc k) (inl a) (inr b) = behind k a b (below_or (row_of c j k) (row_of c j (suc k)))

  row-fine-iff : (j k : ℕ) → RowFine j k ↔ (row_fault_at j k ≡ 0)
  row-fine-iff j k = (λ h. there h (row_is j k), λ e. back e (row_is j k))
    where
      there : RowFine j k → RowIs j k → row_fault_at j k ≡ 0
      there h (outside e o) = absurd (h.0 o)
      there h (fallen e o a) = absurd (h.1 a)
      there h (clear e f) = e

      back : row_fault_at j k ≡ 0 → RowIs j k → RowFine j k
      back z (outside e o) = absurd (omega arith)
      back z (fallen e o a) = absurd (omega arith)
      back z (clear e f) = f

  -- a column's fault is that of its first row at fault
  abbrev fault_in : ℕ → ℕ
  fault_in j = column_fault c.n c.starts c.rows j

  column-fault-iff : (j f : ℕ)
      → (fault_in j ≡ suc f) ↔ ((k : ℕ) × (k < length (column_of c.starts c.rows j)) × (row_fault_at j k ≡ suc f) × ((i : ℕ) → i < k → RowFine j i))
  unfolding column_fault
  column-fault-iff j f =
      let t = fault-iff c.n j j (column_of c.starts c.rows j) f in (
        λ e. let (k, l, x, m) = t.0 e in (k, l, x, λ i h. (row-fine-iff j i).1 (m i h)),
        λ (k, l, x, m). t.1 (k, l, x, λ i h. (row-fine-iff j i).0 (m i h)),
      )

  -- the fault of a column is the one whose condition holds
  column-faults : Faults fault_in (FaultyColumn c)
  column-faults = record { is = is; some = λ j. some j (fault_in j) refl }
    where
      is-five : {j k : ℕ} → Outside c j k → RowIs j k → row_fault_at j k ≡ 5
      is-five o (outside e p) = e
      is-five o (fallen e p x) = absurd (p o)
      is-five o (clear e f) = absurd (f.0 o)

      is-six : {j k : ℕ} → ¬ Outside c j k → NotAbove c j k → RowIs j k → row_fault_at j k ≡ 6
      is-six o x (outside e p) = absurd (o p)
      is-six o x (fallen e p y) = e
      is-six o x (clear e f) = absurd (f.1 x)

      is : (j m : ℕ) → FaultyColumn c j m → (fault_in j ≡ m) × (0 < m)
      is j m (five {k = k} here before o) = ((column-fault-iff j 4).1 (k, here, is-five o (row_is j k), before), omega arith)
      is j m (six {k = k} here before o x) = ((column-fault-iff j 5).1 (k, here, is-six o x (row_is j k), before), omega arith)

      some : (j f : ℕ) → fault_in j ≡ f → (fault_in j ≡ 0) ⊎ FaultyColumn c j (fault_in j)
      some j zero e = inl e
      some j (suc f) e = let (k, here, x, before) = (column-fault-iff j f).0 e in inr (rw e (go k here x before (row_is j k)))
        where
          go : (k : ℕ) → IsRow c j k → row_fault_at j k ≡ suc f → FineBefore c j k → RowIs j k → FaultyColumn c j (suc f)
          go k here x before (outside y o) = let z : suc f ≡ 5 = omega arith in rw z (five here before o)
          go k here x before (fallen y o n) = let z : suc f ≡ 6 = omega arith in rw z (six here before o n)
          go k here x before (clear y n) = absurd (omega arith)

  -- the test of 5 and 6 agrees with its condition
  pub rows_agree : Agree (bad_row.test c) (bad_row.gives c)
  rows_agree = agree-faults column-faults c.n (λ number j. answer number j 0) (λ m j h. h)
