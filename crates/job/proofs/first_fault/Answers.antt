-- Proves that `first_fault` answers the first test that refuses: it makes the tests in their order, and those before it pass, so the first of those
-- left is the first of all.
-- Assumes nothing.
use Rattle.std.proofs.Common.{◌<◌, ◌≤◌, ◌≡◌, sym, ◌∙◌, List, [], ◌∷◌}
use Rattle.papers.specs.declared.Answer.{Answer}
use Rattle.papers.specs.Bounds.{max_columns, max_mark, max_limit}
use Rattle.papers.specs.Refusals.{answer, passed, refused, Refusal, on, first}
use Rattle.papers.specs.Job.{Job, job_refusals, mark_unknown, limit_over, job_lists, bad_starts, bad_row}
use Rattle.refusals.proofs.Passed.{handed-on}
use Rattle.job_laws.specs.Passed.{starts_test, rows_test}
use Rattle.job_laws.proofs.Firsts.{first_passes, first-refuses, first-last, over-refuses, over-passes-iff}
use Rattle.job.proofs.first_fault.Goals as goal

-- the refusals of a job's lists, which follow those of its numbers
abbrev of_lists : List (Refusal Job)
of_lists = on job_lists bad_starts ∷ on job_lists bad_row ∷ []

module _ (job : Job) where
  columns-refuses : max_columns < job.n → refused (answer 1 0 0) ≡ first job_refusals job
  unfolding job_refusals
  columns-refuses h = sym (first-refuses _ _ job (over-refuses max_columns job.n _ h))

  module _ (few : job.n ≤ max_columns) where
    columns-pass : first job_refusals job ≡ first (mark_unknown ∷ limit_over ∷ of_lists) job
    unfolding job_refusals
    columns-pass = first_passes _ _ job ((over-passes-iff max_columns job.n _).1 few)

    mark-refuses : max_mark < job.mark → refused (answer 2 0 0) ≡ first job_refusals job
    mark-refuses h = sym (columns-pass ∙ first-refuses _ _ job (over-refuses max_mark job.mark _ h))

    module _ (marked : job.mark ≤ max_mark) where
      mark-passes : first job_refusals job ≡ first (limit_over ∷ of_lists) job
      mark-passes = columns-pass ∙ first_passes _ _ job ((over-passes-iff max_mark job.mark _).1 marked)

      limit-refuses : max_limit < job.limit → refused (answer 3 0 0) ≡ first job_refusals job
      limit-refuses h = sym (mark-passes ∙ first-refuses _ _ job (over-refuses max_limit job.limit _ h))

      module _ (limited : job.limit ≤ max_limit) where
        limit-passes : first job_refusals job ≡ first of_lists job
        limit-passes = mark-passes ∙ first_passes _ _ job ((over-passes-iff max_limit job.limit _).1 limited)

        starts-refuse : {a : Answer} → refused a ≡ starts_test job.n job.starts job.rows → refused a ≡ first job_refusals job
        starts-refuse e = sym (limit-passes ∙ first-refuses _ _ job (sym e))

        rows-decide : passed ≡ starts_test job.n job.starts job.rows → rows_test job.n job.starts job.rows ≡ first job_refusals job
        rows-decide e = sym (limit-passes ∙ first_passes _ _ job (sym e) ∙ first-last _ job)

pub returns-then-head-gt-MAX_COLUMNS : goal.returns-then-head-gt-MAX_COLUMNS
returns-then-head-gt-MAX_COLUMNS c = rw c.refuse.ensures (columns-refuses _ c.if-head-gt-MAX_COLUMNS.true)

pub returns-then-head-gt-MAX_MARK : goal.returns-then-head-gt-MAX_MARK
returns-then-head-gt-MAX_MARK c =
    rw c.refuse-then-head-gt-MAX_MARK.ensures (mark-refuses _ c.if-head-gt-MAX_COLUMNS.false c.if-head-gt-MAX_MARK.true)

pub returns-then-head-gt-MAX_LIMIT : goal.returns-then-head-gt-MAX_LIMIT
returns-then-head-gt-MAX_LIMIT c =
    rw c.refuse-then-head-gt-MAX_LIMIT.ensures
    (limit-refuses _ c.if-head-gt-MAX_COLUMNS.false c.if-head-gt-MAX_MARK.false c.if-head-gt-MAX_LIMIT.true)

pub returns-in_err-starts_fault : goal.returns-in_err-starts_fault
returns-in_err-starts_fault c =
    rw (handed-on c.from_residual.result c.from_residual.ensures.1)
    (starts-refuse _ c.if-head-gt-MAX_COLUMNS.false c.if-head-gt-MAX_MARK.false c.if-head-gt-MAX_LIMIT.false c.in_err-starts_fault.ensures)

pub returns : goal.returns
returns c =
    c.rows_fault.ensures
    ∙ rows-decide _ c.if-head-gt-MAX_COLUMNS.false c.if-head-gt-MAX_MARK.false c.if-head-gt-MAX_LIMIT.false c.in_ok-starts_fault.ensures
