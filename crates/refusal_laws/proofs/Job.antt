-- Proves that the tests of a job (1 to 6) agree with their conditions.
-- Assumes nothing.
use Prim.Native.Nat.{ℕ, suc, ◌+◌, ◌<◌}
use mathlib.Core.Path.{◌≡◌}
use mathlib.Core.Logic.{◌↔◌, ◌≢◌}
use mathlib.Core.Bool.{true}
use native.Mathlib.Omega.{arith}
use lib.ListN.{length}
use borrow.Author.Tests.{ltb-true, lt-ltb}
use Rattle.papers.specs.Bounds.{max_columns, max_mark, max_limit}
use Rattle.papers.specs.Job.{Job, start, falls_at_place, Falls, RowLists, job_lists, job_refusals, columns_over, limit_over, mark_unknown}
use Rattle.papers.specs.Job.{bad_starts}
use Rattle.refusal_laws.proofs.Agreements.{Agree, answered-iff, AgreeEach, ◌▸◌}
use Rattle.refusal_laws.proofs.Tests.{below-iff, differ-iff, agree-if, agree_at}
use Rattle.refusal_laws.proofs.Rows.{rows_agree}

-- the tests of 1, 2 and 3 agree with their conditions
pub columns-agree : (n : ℕ) → Agree (columns_over.test n) (columns_over.gives n)
columns-agree n = agree-if _ _ (omega arith) (below-iff max_columns n)

mark-agree : (job : Job) → Agree (mark_unknown.test job) (mark_unknown.gives job)
mark-agree job =
    agree-if _ _ (omega arith) (λ e. over (ltb-true max_mark job.mark e), λ h. lt-ltb max_mark job.mark (omega (arith, h.0, h.1, h.2)))
  where
    over : max_mark < job.mark → (job.mark ≢ 0) × (job.mark ≢ 1) × (job.mark ≢ 2)
    over h = (λ e. omega arith, λ e. omega arith, λ e. omega arith)

limit-agree : (job : Job) → Agree (limit_over.test job) (limit_over.gives job)
limit-agree job = agree-if _ _ (omega arith) (below-iff max_limit job.limit)

-- the test of 4 agrees with its condition
module _ (c : RowLists) where
  falls-iff : (j : ℕ) → (falls_at_place c.starts j ≡ true) ↔ Falls c.starts j
  unfolding falls_at_place
  falls-iff j = below-iff (start c.starts (suc j)) (start c.starts j)

  pub starts-agree : Agree (bad_starts.test c) (bad_starts.gives c)
  starts-agree =
      answered-iff _ c
      (agree-if _ _ (omega arith) (differ-iff (length c.starts) (c.n + 1))
      ▸ λ p. agree-if _ _ (omega arith) (differ-iff (start c.starts 1) 0)
      ▸ λ p. agree_at (falls_at_place c.starts) c.n (λ k l h. falls-iff k) (λ p. 4) (λ p. 0) (λ p l u h. omega arith)
      ▸ λ p. agree-if _ _ (omega arith) (differ-iff (start c.starts (suc c.n)) (length c.rows))
      ▸ λ p. tt)

-- ---- 1 to 6

pub job-agree : (job : Job) → AgreeEach job_refusals job
unfolding job_refusals
job-agree job =
    columns-agree job.n
    ▸ λ p. mark-agree job
    ▸ λ p. limit-agree job
    ▸ λ p. starts-agree (job_lists job)
    ▸ λ p. rows_agree (job_lists job)
    ▸ λ p. tt
