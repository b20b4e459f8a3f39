-- Proves what a job that passes its tests is. The test of the starts makes each column's rows a part of all rows; the test of the rows
-- makes them ascend above the column. A start behind the last counts as 0, so columns over n are empty.
-- Assumes nothing.
use Prim.Native.Nat.{ℕ, zero, suc, ◌<◌, ◌≤◌}
use mathlib.Core.Path.{◌≡◌}
use mathlib.Core.Logic.{◌↔◌, ⊎_elim}
use mathlib.Core.List.Memᴰ
use mathlib.Core.List.{List, []}
use native.Mathlib.Omega.{arith}
use lib.ListN.{length, get_or, get_or-eq_default}
use lib.Seq.{slice_empty, drop-nil}
use Rattle.papers.specs.Bounds.{max_columns, max_mark, max_limit}
use Rattle.papers.specs.Lists.{◌∈◌, Asc}
use Rattle.papers.specs.Refusals.{answer, passed, first}
use Rattle.papers.specs.Job.{Job, start, column_of, pattern, Below, job_refusals}
use Rattle.list_laws.proofs.Tests.{below_or}
use Rattle.job_laws.specs.Passed.{PassedLists, Passed, starts_test, rows_test}
use Rattle.job_laws.proofs.Firsts.{◌&◌, first-passed-iff, over-passes-iff}
use Rattle.job_laws.proofs.Starts.{starts-iff, start-at}
use Rattle.job_laws.proofs.Rows.{rows-iff}

-- ---- lists of n columns: a job's pattern, and the factor that a run is given

module _ (n : ℕ) (starts rows : List ℕ) where
  -- the two tests of the lists pass exactly when the lists are such
  pub lists-iff : ((starts_test n starts rows ≡ passed) × (rows_test n starts rows ≡ passed)) ↔ PassedLists n starts rows
  lists-iff =
      let s = starts-iff n starts rows in
      let r = rows-iff n starts rows in (
        λ p. record { whole = s.0 p.0; ascending = λ j l h. (r.0 p.1 j l h).0; within = λ j l h. (r.0 p.1 j l h).1 },
        λ q. (s.1 q.whole, r.1 (λ j l h. (q.ascending j l h, q.within j l h))),
      )

  no-column-0 : column_of starts rows 0 ≡ []
  unfolding column_of start
  no-column-0 = slice_empty (get_or starts 0 0) rows

  module _ (p : PassedLists n starts rows) where
    -- a column over n has no rows
    pub no-column-over : (j : ℕ) → n < j → column_of starts rows j ≡ []
    unfolding column_of
    no-column-over j h =
        let s = p.whole.long in
        let q : length starts ≤ j = omega arith in
        rw (start-at starts j, get_or-eq_default starts 0 q) (drop-nil (start starts j))

    -- the rows are strictly below the diagonal
    pub lists-below : Below n (column_of starts rows)
    lists-below = record { none = no-column-0; ascending = ascends; within = inside }
      where
        ascends : (j : ℕ) → Asc j (column_of starts rows j)
        ascends zero = rw no-column-0 tt
        ascends (suc j) =
            ⊎_elim (λ (h : n < suc j). rw (no-column-over (suc j) h) tt) (λ (h : suc j ≤ n). p.ascending (suc j) (omega arith) h)
            (below_or n (suc j))

        inside : (i j : ℕ) → i ∈ column_of starts rows j → i ≤ n
        inside i zero m = absurd (Memᴰ.not-nil (rw no-column-0 at m))
        inside i (suc j) m =
            ⊎_elim
            (λ (h : n < suc j). absurd (Memᴰ.not-nil (rw (no-column-over (suc j) h) at m)))
            (λ (h : suc j ≤ n). p.within (suc j) (omega arith) h i m)
            (below_or n (suc j))

-- ---- a job

-- a job passes its tests exactly when it is such a job
pub passes-iff : (job : Job) → (first job_refusals job ≡ passed) ↔ Passed job
unfolding job_refusals
passes-iff job =
    let each = first-passed-iff job_refusals job in
    let lists = lists-iff job.n job.starts job.rows in
    let columns = over-passes-iff max_columns job.n (answer 1 0 0) in
    let mark = over-passes-iff max_mark job.mark (answer 2 0 0) in
    let limit = over-passes-iff max_limit job.limit (answer 3 0 0) in (
      λ e. let (one, (two, (three, (four, (five-six, none))))) = each.0 e in
          record { few = columns.0 one; marked = mark.0 two; limited = limit.0 three; lists = lists.0 (four, five-six) },
      λ p. let (four, five-six) = lists.1 p.lists in
          each.1 (columns.1 p.few & mark.1 p.marked & limit.1 p.limited & four & five-six & tt),
    )

-- the rows of a job that passes are strictly below the diagonal
pub passed-below : (job : Job) → Passed job → Below job.n (pattern job)
passed-below job p = lists-below job.n job.starts job.rows p.lists
