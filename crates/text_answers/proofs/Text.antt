-- Proves that the tests of a job text (25 and 26) agree with their conditions, line by line. The tests of the lines behind line 1 need
-- agree only if line 1 is well formed; that of a row line only if the row lines before it have no fault.
-- Assumes nothing.
use Prim.Native.Nat.{ℕ, suc, ◌+◌, ◌<◌, ◌≤◌}
use mathlib.Core.Path.{◌≡◌, refl, ap}
use mathlib.Core.Logic.{◌⊎◌, inl, inr, ◌≢◌}
use mathlib.Core.Bool.{true, false}
use mathlib.Core.List.{List, [], ◌∷◌}
use native.Mathlib.Omega.{arith}
use lib.ListN.{length}
use Rattle.papers.specs.declared.JobHead.{JobHead}
use Rattle.papers.specs.Bounds.{input_bytes, program_columns, program_rows}
use Rattle.papers.specs.Lists.{flat}
use Rattle.papers.specs.Refusals.{answer}
use Rattle.papers.specs.Text.{numbers_at, is_row_line, after_lines, Head, HeadLine, head_of_text, text_lists}
use Rattle.papers.specs.Text.{Input, input_over, bad_head, head_over, line_fault}
use Rattle.papers.specs.Text.{FaultyLine, bad-line, rows-over, bad_line, text_after, text_refusals}
use Rattle.list_laws.proofs.Tests.{Test, passes, fails, test, true-false, below_or, same_or}
use Rattle.text_laws.proofs.TextLists.{length-lists}
use Rattle.text_laws.proofs.LineTests.{head_passed, line-bad, line-over, line-fine, line-is-row}
use Rattle.refusal_laws.proofs.Agreements.{Agree, agree_same, AgreeEach, ◌▸◌}
use Rattle.refusal_laws.proofs.Tests.{below-iff, either-iff, not_iff, agree-if, FirstFaults, agree-first-faults}
use Rattle.text_answers.proofs.TextLines.{head-fine-line, head-line-read, only-head, row-line-iff, row-lines-iff}

-- ---- the whole input, and line 1

module _ (input : Input) where
  -- the test of 26 at place 0 agrees with its condition
  input-agree : Agree (input_over.test input) (input_over.gives input)
  input-agree = agree-if _ _ (omega arith) (either-iff input.more _ (λ e. e, λ e. e) (below-iff input_bytes (length input.text)))

  -- the test of 25 at line 1 agrees with its condition
  head-agree : Agree (bad_head.test input) (bad_head.gives input)
  head-agree =
      let i = not_iff (head_of_text input.text).fine {P = (head : JobHead) × HeadLine input.text head}
      (λ f. (_, head-fine-line input.text f), λ (head, l). ap (λ (h : Head). h.fine) (head-line-read input.text l)) in
      agree-if _ _ (omega arith) (λ e head l. i.0 e (head, l), λ none. i.1 (λ (head, l). none head l))

-- ---- the row lines

module _ (text : List ℕ) where
  -- lists with rows are not none
  some-list : (lists : List (List ℕ)) → program_rows < length (flat lists) → 1 ≤ length lists
  unfolding flat
  some-list [] o = absurd (omega arith)
  some-list (l ∷ ls) o = omega arith

  -- the fault of a row line, if those before it have none, is that of its condition
  line-faults : FirstFaults (line_fault text) (FaultyLine text)
  line-faults = record {
    is = is;
    some = λ j before. go j before (test (is_row_line (numbers_at text (suc j)))) (below_or program_rows (length (flat (text_lists text j))));
  }
    where
      is : (j m : ℕ) → FaultyLine text j m → (line_fault text j ≡ m) × (0 < m)
      is j m (bad-line none) = (line-bad text j (bad (test (is_row_line (numbers_at text (suc j))))), omega arith)
        where
          bad : Test (is_row_line (numbers_at text (suc j))) → is_row_line (numbers_at text (suc j)) ≡ false
          bad (passes r) = absurd (none _ ((row-line-iff text (suc j) _).0 (r, refl)))
          bad (fails r) = r
      is j m (rows-over lists long lines o) =
          let (fine, same) = (row-lines-iff text j lists long).0 lines in
          let some = some-list lists o in
          (line-over text j (fine j (omega arith) (omega arith)) (rw same at o), omega arith)

      go : (j : ℕ) → ((i : ℕ) → 1 ≤ i → i < j → line_fault text i ≡ 0) → Test (is_row_line (numbers_at text (suc j)))
          → (program_rows < length (flat (text_lists text j))) ⊎ (length (flat (text_lists text j)) ≤ program_rows)
          → (line_fault text j ≡ 0) ⊎ FaultyLine text j (line_fault text j)
      go j before (fails r) o = inr (rw (line-bad text j r) (bad-line (λ rows l. true-false ((row-line-iff text (suc j) rows).1 l).0 r)))
      go j before (passes r) (inl o) =
          inr (rw (line-over text j r o) (rows-over (text_lists text j) (length-lists text j)
          ((row-lines-iff text j (text_lists text j) (length-lists text j)).1 (fine, refl)) o))
        where
          fine : (k : ℕ) → 1 ≤ k → k ≤ j → is_row_line (numbers_at text (suc k)) ≡ true
          fine k l u = here (same_or k j)
            where
              here : (k ≡ j) ⊎ (k ≢ j) → is_row_line (numbers_at text (suc k)) ≡ true
              here (inl e) = rw e r
              here (inr n) = line-is-row text k (before k l (omega arith))
      go j before (passes r) (inr o) = inl (line-fine text j r o)

module _ (input : Input) (fine : (head_of_text input.text).fine ≡ true) where
  -- the test of 26 at line 1 agrees with its condition
  columns-agree : Agree (head_over.test input) (head_over.gives input)
  columns-agree =
      agree_same _ (agree-if _ _ (omega arith) (below-iff program_columns (head_of_text input.text).head.n))
      (λ a. only-head input.text fine (λ head. (program_columns < head.n) × (a ≡ answer 26 1 0)))

  -- the test of the row lines (25 and 26) agrees with its condition
  lines-agree : Agree (bad_line.test input) (bad_line.gives input)
  lines-agree =
      agree_same _
      (agree-first-faults (line-faults input.text) (head_of_text input.text).head.n (λ number j. answer number (suc j) 0) (λ m k h. h))
      (λ a. only-head input.text fine (λ head. (j number : ℕ) × ((1 ≤ j) × (j ≤ head.n)) × FaultyLine input.text j number
      × ((k m : ℕ) → 1 ≤ k → k < j → ¬ FaultyLine input.text k m) × (a ≡ answer number (suc j) 0)))

  -- the test of 25 behind the last row line agrees with its condition
  end-agree : Agree (text_after.test input) (text_after.gives input)
  end-agree =
      agree_same _ (agree-if _ _ (omega arith) (below-iff 0 (length (after_lines (suc (head_of_text input.text).head.n) input.text))))
      (λ a. only-head input.text fine (λ head. (0 < length (after_lines (suc head.n) input.text)) × (a ≡ answer 25 (head.n + 2) 0)))

-- a text is refused exactly by the numbers and lines of its conditions
pub text-agree : (input : Input) → AgreeEach text_refusals input
unfolding text_refusals
text-agree input =
    input-agree input
    ▸ λ p. head-agree input
    ▸ λ p. columns-agree input (head_passed input p)
    ▸ λ q. lines-agree input (head_passed input p)
    ▸ λ r. end-agree input (head_passed input p)
    ▸ λ s. tt
