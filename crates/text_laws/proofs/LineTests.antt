-- The tests of a text's lines by what they read: line 1 by its numbers, the line of a column by its numbers and the rows so far.
-- Assumes nothing.
use Prim.Native.Nat.{ℕ, zero, suc, ◌<◌, ◌≤◌}
use mathlib.Core.Path.{◌≡◌, refl}
use mathlib.Core.Logic.{◌⊎◌, inl, inr}
use mathlib.Core.Bool.{Bool, true, false}
use mathlib.Core.List.{List}
use native.Mathlib.Omega.{arith}
use lib.Dec.{ltb}
use lib.ListN.{length}
use borrow.Author.Tests.{ltb-false, lt-ltb, le-ltb}
use Rattle.papers.specs.Bounds.{program_columns, program_rows}
use Rattle.papers.specs.Lists.{least, flat}
use Rattle.papers.specs.Refusals.{passed, refused_if, fault_test}
use Rattle.papers.specs.Text.{Input, numbers_at, is_row_line, head_of_text, text_lists, bad_head, head_over, line_fault, bad_line}
use Rattle.list_laws.proofs.Leasts.{least-zero-iff}
use Rattle.list_laws.proofs.Tests.{Test, passes, fails, test, below_or}

-- ---- line 1

module _ (input : Input) where
  -- one that passes is well formed
  pub head_passed : bad_head.test input ≡ passed → (head_of_text input.text).fine ≡ true
  unfolding refused_if
  head_passed e = go (test (head_of_text input.text).fine)
    where
      go : Test (head_of_text input.text).fine → (head_of_text input.text).fine ≡ true
      go (passes f) = f
      go (fails f) = let q = rw (f, refused_if) at e in let z : ◌≡◌ {A = ℕ} 0 1 = cc in absurd (omega arith)

  -- and names no more columns than the program has
  pub head-columns : head_over.test input ≡ passed → (head_of_text input.text).head.n ≤ program_columns
  unfolding refused_if
  head-columns e = go (below_or program_columns (head_of_text input.text).head.n)
    where
      go : (program_columns < (head_of_text input.text).head.n) ⊎ ((head_of_text input.text).head.n ≤ program_columns)
          → (head_of_text input.text).head.n ≤ program_columns
      go (inr l) = l
      go (inl l) =
          let q = rw (lt-ltb program_columns (head_of_text input.text).head.n l, refused_if) at e in
          let z : ◌≡◌ {A = ℕ} 0 1 = cc in
          absurd (omega arith)

-- ---- the line of column j

module _ (text : List ℕ) (j : ℕ) where
  pub line-bad : is_row_line (numbers_at text (suc j)) ≡ false → line_fault text j ≡ 25
  unfolding line_fault
  line-bad e = rw (e, line_fault)

  module _ (e : is_row_line (numbers_at text (suc j)) ≡ true) where
    pub line-over : program_rows < length (flat (text_lists text j)) → line_fault text j ≡ 26
    unfolding line_fault
    line-over h = rw (e, lt-ltb program_rows (length (flat (text_lists text j))) h, line_fault)

    pub line-fine : length (flat (text_lists text j)) ≤ program_rows → line_fault text j ≡ 0
    unfolding line_fault
    line-fine h = rw (e, le-ltb program_rows (length (flat (text_lists text j))) h, line_fault)

  -- a line without a fault is a row line
  pub line-is-row : line_fault text j ≡ 0 → is_row_line (numbers_at text (suc j)) ≡ true
  line-is-row e = go (test (is_row_line (numbers_at text (suc j))))
    where
      go : Test (is_row_line (numbers_at text (suc j))) → is_row_line (numbers_at text (suc j)) ≡ true
      go (passes r) = r
      go (fails r) = absurd (omega (arith, line-bad r))

-- row lines that pass have no fault
pub lines-passed : (input : Input) → bad_line.test input ≡ passed → (j : ℕ) → 1 ≤ j → j ≤ (head_of_text input.text).head.n
    → line_fault input.text j ≡ 0
unfolding fault_test
lines-passed input e j l h =
    omega (arith, ltb-false 0 (line_fault input.text j) ((least-zero-iff faulty (head_of_text input.text).head.n).0 (go _ refl) j l h))
  where
    faulty : ℕ → Bool
    faulty j = ltb 0 (line_fault input.text j)

    go : (p : ℕ) → least (λ j. ltb 0 (line_fault input.text j)) (head_of_text input.text).head.n ≡ p
        → least faulty (head_of_text input.text).head.n ≡ 0
    go zero z = z
    go (suc p) z = let q = rw (z, fault_test) at e in let w : ◌≡◌ {A = ℕ} 0 1 = cc in absurd (omega arith)
