-- Proves that the job of a text is the one that its lines name, and that the lines of a text that is not refused name one.
-- Assumes nothing.
use Prim.Native.Nat.{ℕ}
use mathlib.Core.Path.{◌≡◌, refl, sym, ap}
use mathlib.Core.List.{List}
use Rattle.papers.specs.declared.JobHead.{JobHead}
use Rattle.papers.specs.Refusals.{Unrefused}
use Rattle.papers.specs.Key.{job_with}
use Rattle.papers.specs.Text.{head_of_text, text_lists, text_job, Input, text_refusals}
use Rattle.text_answers.specs.Names.{Names}
use Rattle.text_laws.proofs.TextLists.{length-lists}
use Rattle.text_laws.proofs.LineTests.{head_passed, line-is-row, lines-passed}
use Rattle.job_laws.proofs.Firsts.{first-passed-iff}
use Rattle.refusal_laws.proofs.Agreements.{passed-iff}
use Rattle.text_answers.proofs.TextLines.{head-fine-line, head-line-read, row-lines-iff}
use Rattle.text_answers.proofs.Text.{text-agree}

-- the job of a text is the one that it names
pub text-job-named : {text : List ℕ} {head : JobHead} {lists : List (List ℕ)} → Names text head lists → text_job text ≡ job_with head lists
unfolding text_job
text-job-named {text} {head} {lists} names =
    let same = ((row-lines-iff text head.n lists names.columns).0 names.row-lines).1 in
    rw (head-line-read text names.first-line) (ap (job_with head) (sym same))

-- a text that is not refused names a job
pub text-names : (input : Input) → Unrefused text_refusals input
    → Names input.text (head_of_text input.text).head (text_lists input.text (head_of_text input.text).head.n)
unfolding text_refusals
text-names input u =
    let text = input.text in
    let n = (head_of_text text).head.n in
    let each = (first-passed-iff text_refusals input).0 ((passed-iff text_refusals input (text-agree input)).1 u) in
    let fine = lines-passed input each.1.1.1.0 in
    record {
      first-line = head-fine-line text (head_passed input each.1.0);
      columns = length-lists text n;
      row-lines = (row-lines-iff text n (text_lists text n) (length-lists text n)).1 (λ k l h. line-is-row text k (fine k l h), refl);
    }
