-- Proves that a refusal of a job has a number, one of 1 to 6, and count 0: each test of a job refuses so, hence the first does. So a job
-- that is answered 0 passes.
-- Assumes nothing.
use Prim.Native.Nat.{ℕ, ◌≤◌}
use mathlib.Core.Path.{◌≡◌, refl, ap}
use mathlib.Core.Bool.{Bool, true, false}
use mathlib.Core.List.{List}
use native.Mathlib.Omega.{arith}
use lib.Dec.{ltb}
use Rattle.papers.specs.declared.Answer.{Answer}
use Rattle.papers.specs.Bounds.{max_columns, max_mark, max_limit}
use Rattle.papers.specs.Refusals.{answer, Verdict, passed, refused, answer_of, first, refused_if}
use Rattle.papers.specs.Job.{Job, column_of, column_fault, job_refusals}
use Rattle.job_laws.specs.Passed.{starts_test, rows_test}
use Rattle.job_laws.proofs.Firsts.{◌&◌, first-each}
use Rattle.job_laws.proofs.Faults.{faults-each}
use Rattle.job_laws.proofs.Starts.{StartsVerdict, four, fine, starts-verdict}
use Rattle.job_laws.proofs.Rows.{rows-at-most}

-- if the verdict refuses, its number is one of 1 to 6, and its count 0
abbrev pub OfJob : Verdict → Type 0
OfJob passed = Unit {0}
OfJob (refused a) = (1 ≤ a.number) × (a.number ≤ 6) × (a.count ≡ 0)

of-job-if : (b : Bool) (number : ℕ) → 1 ≤ number → number ≤ 6 → OfJob (refused_if b (answer number 0 0))
unfolding refused_if
of-job-if true number l h = (l, h, refl)
of-job-if false number l h = tt

pub starts-numbered : (n : ℕ) (starts rows : List ℕ) → OfJob (starts_test n starts rows)
starts-numbered n starts rows = go (starts-verdict n starts rows)
  where
    go : StartsVerdict n starts rows → OfJob (starts_test n starts rows)
    go (four place e) = rw e (omega arith, omega arith, refl)
    go (fine e s) = rw e tt

pub rows-numbered : (n : ℕ) (starts rows : List ℕ) → OfJob (rows_test n starts rows)
unfolding column_fault
rows-numbered n starts rows =
    faults-each (column_fault n starts rows) n (λ number j. answer number j 0) OfJob tt
    (λ j l h f. (omega arith, rows-at-most n j j (column_of starts rows j), refl))

-- a refusal of a job has one of the numbers 1 to 6, and count 0
pub job-numbered : (job : Job) → OfJob (first job_refusals job)
unfolding job_refusals
job-numbered job =
    first-each OfJob job_refusals job tt
    (of-job-if (ltb max_columns job.n) 1 (omega arith) (omega arith)
    & of-job-if (ltb max_mark job.mark) 2 (omega arith) (omega arith)
    & of-job-if (ltb max_limit job.limit) 3 (omega arith) (omega arith)
    & starts-numbered job.n job.starts job.rows
    & rows-numbered job.n job.starts job.rows
    & tt)

-- the answer has number 0 only if nothing is refused
pub numbered-zero : (v : Verdict) → OfJob v → (r : Answer) → r ≡ answer_of v → r.number ≡ 0 → v ≡ passed
unfolding answer_of
numbered-zero passed h r e z = refl
numbered-zero (refused a) h r e z = absurd (omega (arith, ap (λ a. a.number) e))
