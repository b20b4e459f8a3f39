-- Proves that the first line at fault decides the tests of the lines, and that the bytes left decide the test of the end.
-- Assumes nothing.
use Prim.Native.Nat.{ℕ, suc, ◌+◌, ◌<◌, ◌≤◌}
use mathlib.Core.Path.{◌≡◌, ◌∙◌}
use mathlib.Core.List.{List, [], ◌∷◌}
use native.Mathlib.Omega.{arith}
use native.Mathlib.Numerals.{add-two}
use lib.ListN.{length}
use Rattle.papers.specs.Lists.{least}
use Rattle.papers.specs.Refusals.{answer, passed, refused, first}
use Rattle.papers.specs.Text.{after_lines, head_of_text, line_fault, bad_line, text_after}
use Rattle.job_laws.proofs.Faults.{faulty, faults-pass, faults-refuse}
use Rattle.job_laws.proofs.Firsts.{first_passes, first-refuses, first-last, over-refuses, over-passes-iff}
use Rattle.text_rows.specs.RowsRead.{whole}

module _ (text : List ℕ) where
  -- the first line at fault
  pub lines-refuse : (j m : ℕ) → least (faulty (line_fault text)) j ≡ 0 → suc j ≤ (head_of_text text).head.n → line_fault text (suc j) ≡ m → 0 < m
      → first (bad_line ∷ text_after ∷ []) (whole text) ≡ refused (answer m (j + 2) 0)
  lines-refuse j m z l e h =
      rw (add-two j, ← e) (first-refuses bad_line (text_after ∷ []) (whole text)
      (faults-refuse (line_fault text) (head_of_text text).head.n (λ number j. answer number (suc j) 0) j z l (omega arith)))

  module _ (z : least (faulty (line_fault text)) (head_of_text text).head.n ≡ 0) where
    lines-pass : bad_line.test (whole text) ≡ passed
    lines-pass = faults-pass (line_fault text) (head_of_text text).head.n (λ number j. answer number (suc j) 0) z

    to_end : first (bad_line ∷ text_after ∷ []) (whole text) ≡ text_after.test (whole text)
    to_end = first_passes bad_line (text_after ∷ []) (whole text) lines-pass ∙ first-last text_after (whole text)

    pub end-refuses : 0 < length (after_lines (suc (head_of_text text).head.n) text)
        → first (bad_line ∷ text_after ∷ []) (whole text) ≡ refused (answer 25 ((head_of_text text).head.n + 2) 0)
    end-refuses h = to_end ∙ over-refuses 0 _ _ h

    pub end-passes : length (after_lines (suc (head_of_text text).head.n) text) ≡ 0 → first (bad_line ∷ text_after ∷ []) (whole text) ≡ passed
    end-passes h = to_end ∙ (over-passes-iff 0 (length (after_lines (suc (head_of_text text).head.n) text)) _).1 (omega arith)
