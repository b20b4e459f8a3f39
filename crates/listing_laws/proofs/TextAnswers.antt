-- Proves that the answers which a listing may print of a text have small numbers: places are lines, and n is a decimal of few digits.
-- Assumes nothing.
use Prim.Native.Nat.{ℕ, suc, ◌+◌, ◌^◌, ◌<◌, ◌≤◌}
use mathlib.Core.Path.{◌≡◌, refl}
use mathlib.Core.List.{List, [], ◌∷◌}
use native.Mathlib.Omega.{arith}
use lib.Dec.{ltb}
use lib.ListN.{length}
use Rattle.papers.specs.Bounds.{max_digits, program_rows}
use Rattle.papers.specs.Lists.{flat}
use Rattle.papers.specs.Refusals.{answer, first}
use Rattle.papers.specs.Text.{head_of, is_row_line, numbers_at, head_of_text, text_lists, Input, line_fault, bad_line, text_refusals}
use Rattle.list_laws.proofs.Tests.{Test, passes, fails, test}
use Rattle.text_laws.proofs.ByWords.{first-line-iff}
use Rattle.job_laws.proofs.Firsts.{◌&◌, first-each}
use Rattle.job_laws.proofs.Faults.{faults-each}
use Rattle.listing_laws.proofs.Answers.{SmallIn, small-if, small_at}

-- n has no more digits than a decimal may have
head-short : (text : List ℕ) → (head_of_text text).head.n < 10 ^ max_digits
unfolding head_of_text head_of
head-short text = go (numbers_at text 1) refl
  where
    go : (l : List ℕ) → numbers_at text 1 ≡ l → (head_of l).head.n < 10 ^ max_digits
    go [] e = omega arith
    go (n ∷ []) e = omega arith
    go (n ∷ limit ∷ []) e = ((first-line-iff text n (limit ∷ [])).0 e).2.0
    go (n ∷ limit ∷ mark ∷ []) e = ((first-line-iff text n (limit ∷ mark ∷ [])).0 e).2.0
    go (n ∷ limit ∷ mark ∷ x ∷ xs) e = omega arith

line-fault : (text : List ℕ) (j : ℕ) → line_fault text j ≤ 26
unfolding line_fault
line-fault text j = go (test (is_row_line (numbers_at text (suc j)))) (test (ltb program_rows (length (flat (text_lists text j)))))
  where
    go : Test (is_row_line (numbers_at text (suc j))) → Test (ltb program_rows (length (flat (text_lists text j)))) → line_fault text j ≤ 26
    go (fails a) b = rw (a, line_fault) (omega arith)
    go (passes a) (passes b) = rw (a, b, line_fault) (omega arith)
    go (passes a) (fails b) = rw (a, b, line_fault) (omega arith)

row-lines-small : (input : Input) → SmallIn (bad_line.test input)
row-lines-small input =
    let n = head-short input.text in
    faults-each (line_fault input.text) (head_of_text input.text).head.n (λ number j. answer number (suc j) 0) SmallIn tt
    (λ j l u f. small_at (line_fault input.text j) (suc j) f (line-fault input.text j) (omega arith))

pub text-small : (input : Input) → SmallIn (first text_refusals input)
unfolding text_refusals
text-small input =
    let n = head-short input.text in
    first-each SmallIn text_refusals input tt
    (small-if _ _ (small_at 26 0 (omega arith) (omega arith) (omega arith))
    & small-if _ _ (small_at 25 1 (omega arith) (omega arith) (omega arith))
    & small-if _ _ (small_at 26 1 (omega arith) (omega arith) (omega arith))
    & row-lines-small input
    & small-if _ _ (small_at 25 ((head_of_text input.text).head.n + 2) (omega arith) (omega arith) (omega arith))
    & tt)

-- so n of a text fits a machine number
pub text-columns : (text : List ℕ) → (head_of_text text).head.n < 2 ^ 64
text-columns text = let n = head-short text in omega arith
