-- Proves that the job of a text that passes is within the program's sizes: line 1 is tested for the columns, and the last line of rows for all rows.
-- Assumes nothing.
use Prim.Native.Nat.{ℕ, zero, suc, ◌+◌, ◌<◌, ◌≤◌}
use mathlib.Core.Path.{◌≡◌, ap, ◌∙◌}
use mathlib.Core.Logic.{◌⊎◌, inl, inr}
use mathlib.Core.List.{List}
use native.Mathlib.Omega.{arith}
use lib.ListN.{length}
use Rattle.papers.specs.Bounds.{program_columns, program_rows}
use Rattle.papers.specs.Lists.{flat}
use Rattle.papers.specs.Refusals.{passed, first}
use Rattle.papers.specs.Text.{Input, head_of_text, text_lists, text_job, line_fault, text_refusals}
use Rattle.list_laws.proofs.Stores.{length-starts}
use Rattle.list_laws.proofs.Tests.{below_or}
use Rattle.job_laws.proofs.Firsts.{first-passed-iff}
use Rattle.text_laws.proofs.TextLists.{lists-none, length-lists}
use Rattle.text_laws.proofs.LineTests.{head-columns, line-over, line-is-row, lines-passed}

-- row lines without faults have few enough rows
rows_fit : (text : List ℕ) (n : ℕ) → ((j : ℕ) → 1 ≤ j → j ≤ n → line_fault text j ≡ 0) → length (flat (text_lists text n)) ≤ program_rows
unfolding flat
rows_fit text zero fine = rw (lists-none text) (omega arith)
rows_fit text (suc n) fine = go (below_or program_rows (length (flat (text_lists text (suc n)))))
  where
    go : (program_rows < length (flat (text_lists text (suc n)))) ⊎ (length (flat (text_lists text (suc n))) ≤ program_rows)
        → length (flat (text_lists text (suc n))) ≤ program_rows
    go (inr l) = l
    go (inl l) =
        let f = fine (suc n) (omega arith) (omega arith) in
        absurd (omega (arith, line-over text (suc n) (line-is-row text (suc n) f) l))

-- the sizes of a job read
pub record Sizes (text : List ℕ) : Type 0 where
  pub columns : (text_job text).n ≤ program_columns
  pub starts : length (text_job text).starts ≡ (text_job text).n + 1
  pub rows : length (text_job text).rows ≤ program_rows

pub passed-sizes : (input : Input) → first text_refusals input ≡ passed → Sizes input.text
unfolding text_refusals text_job
passed-sizes input e =
    let each = (first-passed-iff text_refusals input).0 e in
    let n = (head_of_text input.text).head.n in
    record {
      columns = head-columns input each.1.1.0;
      starts = length-starts 0 (text_lists input.text n) ∙ ap (λ (m : ℕ). m + 1) (length-lists input.text n);
      rows = rows_fit input.text n (lines-passed input each.1.1.1.0);
    }
