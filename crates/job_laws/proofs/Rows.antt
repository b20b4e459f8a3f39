-- Proves the test of the rows (5 and 6): the fault of a row, the first of a column, the first of all; and that a column has no fault
-- exactly when its rows ascend above it, up to n.
-- Assumes nothing.
use Prim.Native.Nat.{ℕ, zero, suc, ◌<◌, ◌≤◌}
use mathlib.Core.Path.{◌≡◌, refl, sym, ◌∙◌}
use mathlib.Core.Logic.{◌↔◌, ◌⊎◌, inl, inr}
use mathlib.Core.List.Memᴰ
use mathlib.Core.List.{List, [], ◌∷◌}
use native.Mathlib.Omega.{arith}
use borrow.Author.Tests.{lt-ltb, le-ltb, le-leb, lt-leb}
use Rattle.papers.specs.Lists.{◌∈◌, Asc}
use Rattle.papers.specs.Refusals.{answer, passed}
use Rattle.papers.specs.Job.{column_of, fault_of_row, fault_of_rows, column_fault}
use Rattle.job_laws.specs.Passed.{rows_test}
use Rattle.list_laws.proofs.Tests.{below_or}
use Rattle.job_laws.proofs.Faults.{faults-passed-iff}

-- ---- one row

module _ (n j before r : ℕ) where
  pub row_low : r ≤ j → fault_of_row n j before r ≡ 5
  unfolding fault_of_row
  row_low a = rw (le-leb r j a, fault_of_row)

  pub row-over : j < r → n < r → fault_of_row n j before r ≡ 5
  unfolding fault_of_row
  row-over a b = rw (lt-leb r j a, lt-ltb n r b, fault_of_row)

  module _ (a : j < r) (b : r ≤ n) where
    pub row-falls : r ≤ before → fault_of_row n j before r ≡ 6
    unfolding fault_of_row
    row-falls d = rw (lt-leb r j a, le-ltb n r b, le-leb r before d, fault_of_row)

    pub row_fine : before < r → fault_of_row n j before r ≡ 0
    unfolding fault_of_row
    row_fine d = rw (lt-leb r j a, le-ltb n r b, lt-leb r before d, fault_of_row)

  -- a row with its fault: 5, or 6, or none, and then it is above its column and the row before it, and at most n
  data Row : Type 0 where
    wrong : 0 < fault_of_row n j before r → fault_of_row n j before r ≤ 6 → Row
    right : fault_of_row n j before r ≡ 0 → j < r → r ≤ n → before < r → Row

  row : Row
  row = go (below_or j r) (below_or n r) (below_or before r)
    where
      go : (j < r) ⊎ (r ≤ j) → (n < r) ⊎ (r ≤ n) → (before < r) ⊎ (r ≤ before) → Row
      go (inr a) b d = let e = row_low a in wrong (omega arith) (omega arith)
      go (inl a) (inl b) d = let e = row-over a b in wrong (omega arith) (omega arith)
      go (inl a) (inr b) (inr d) = let e = row-falls a b d in wrong (omega arith) (omega arith)
      go (inl a) (inr b) (inl d) = right (row_fine a b d) a b d

-- ---- the rows of a column

module _ (n j before : ℕ) (r : ℕ) (rs : List ℕ) where
  pub rows-fault : 0 < fault_of_row n j before r → fault_of_rows n j before (r ∷ rs) ≡ fault_of_row n j before r
  unfolding fault_of_rows
  rows-fault h = go (fault_of_row n j before r) refl
    where
      go : (f : ℕ) → fault_of_row n j before r ≡ f → fault_of_rows n j before (r ∷ rs) ≡ fault_of_row n j before r
      go zero e = absurd (omega arith)
      go (suc f) e = rw (e, fault_of_rows)

  pub rows_next : fault_of_row n j before r ≡ 0 → fault_of_rows n j before (r ∷ rs) ≡ fault_of_rows n j r rs
  unfolding fault_of_rows
  rows_next e = rw (e, fault_of_rows)

pub rows-at-most : (n j before : ℕ) (rs : List ℕ) → fault_of_rows n j before rs ≤ 6
unfolding fault_of_rows
rows-at-most n j before [] = omega arith
rows-at-most n j before (r ∷ rs) = go (row n j before r) (rows-at-most n j r rs)
  where
    go : Row n j before r → fault_of_rows n j r rs ≤ 6 → fault_of_rows n j before (r ∷ rs) ≤ 6
    go (wrong f l) ih = rw (rows-fault n j before r rs f) l
    go (right e a b d) ih = rw (rows_next n j before r rs e) ih

-- rows behind a number not below j have no fault exactly when they ascend above it, up to n
pub rows-fine-iff : (n j before : ℕ) (rs : List ℕ) → j ≤ before → (fault_of_rows n j before rs ≡ 0) ↔ (Asc before rs × ((i : ℕ) → i ∈ rs → i ≤ n))
unfolding fault_of_rows
rows-fine-iff n j before [] l = (λ e. (tt, λ i m. absurd (Memᴰ.not-nil m)), λ h. refl)
rows-fine-iff n j before (r ∷ rs) l = go (row n j before r) (λ k. rows-fine-iff n j r rs k)
  where
    within : r ≤ n → ((i : ℕ) → i ∈ rs → i ≤ n) → (i : ℕ) → i ∈ (r ∷ rs) → i ≤ n
    within b h i (Memᴰ.head e) = omega arith
    within b h i (Memᴰ.tail m) = h i m

    go : Row n j before r → (j ≤ r → (fault_of_rows n j r rs ≡ 0) ↔ (Asc r rs × ((i : ℕ) → i ∈ rs → i ≤ n)))
        → (fault_of_rows n j before (r ∷ rs) ≡ 0) ↔ (Asc before (r ∷ rs) × ((i : ℕ) → i ∈ (r ∷ rs) → i ≤ n))
    go (wrong f q) ih = (
      λ z. absurd (omega (arith, rows-fault n j before r rs f)),
      λ h. let z = row_fine n j before r (omega (arith, h.0.0)) (h.1 r (Memᴰ.head refl)) h.0.0 in absurd (omega arith),
    )
    go (right e a b d) ih =
        let k = ih (omega arith) in (
          λ z. let h = k.0 (sym (rows_next n j before r rs e) ∙ z) in ((d, h.0), within b h.1),
          λ h. rows_next n j before r rs e ∙ k.1 (h.0.1, λ i m. h.1 i (Memᴰ.tail m)),
        )

-- ---- the rows of all columns

module _ (n : ℕ) (starts rows : List ℕ) where
  -- column j has no fault exactly when its rows ascend above j, up to n
  pub column-fine-iff : (j : ℕ) → (column_fault n starts rows j ≡ 0) ↔ (Asc j (column_of starts rows j) × ((i : ℕ) → i ∈ column_of starts rows j
      → i ≤ n))
  unfolding column_fault
  column-fine-iff j = rows-fine-iff n j j (column_of starts rows j) (omega arith)

  -- rows pass exactly when each column's rows ascend above it, up to n
  pub rows-iff : (rows_test n starts rows ≡ passed)
      ↔ ((j : ℕ) → 1 ≤ j → j ≤ n → Asc j (column_of starts rows j) × ((i : ℕ) → i ∈ column_of starts rows j → i ≤ n))
  rows-iff =
      let k = faults-passed-iff (column_fault n starts rows) n (λ number j. answer number j 0) in
      (λ e j l h. (column-fine-iff j).0 (k.0 e j l h), λ g. k.1 (λ j l h. (column-fine-iff j).1 (g j l h)))
