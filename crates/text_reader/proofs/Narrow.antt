-- Proves that a job with narrowed rows is refused as the job itself is: a row that narrowing changes is over n, and so is the row kept for it, so
-- both are 5 at the same column.
-- Assumes nothing.
use Prim.Native.Nat.{ℕ, zero, suc, ◌<◌, ◌≤◌}
use mathlib.Core.Path.{◌≡◌, refl, sym, ap, ◌∙◌}
use mathlib.Core.Logic.{◌⊎◌, inl, inr}
use mathlib.Core.List.{List, [], ◌∷◌, map}
use native.Mathlib.Omega.{arith}
use lib.ListN.{take, drop, length-map}
use Rattle.papers.specs.Bounds.{max_columns}
use Rattle.papers.specs.Refusals.{answer, Verdict, passed, refused, Refusal, first}
use Rattle.papers.specs.Job.{Job, start, column_of, fault_of_row, fault_of_rows, column_fault, job_refusals}
use Rattle.job_laws.specs.Passed.{starts_test, rows_test}
use Rattle.list_laws.proofs.Tests.{below_or}
use Rattle.job_laws.proofs.Firsts.{first_passes, first-refuses, over-refuses}
use Rattle.job_laws.proofs.Faults.{faults-same}
use Rattle.job_laws.proofs.Rows.{row-over, rows-fault, rows_next}
use Rattle.text_lines.specs.Narrowed.{narrowed}
use Rattle.text_reader.specs.Reading.{kept_job}

-- ---- the rows of a column

module _ (n j : ℕ) (few : n ≤ max_columns) (there : j ≤ n) where
  column-same : (before : ℕ) (rs : List ℕ) → fault_of_rows n j before (map narrowed rs) ≡ fault_of_rows n j before rs
  column-same before [] = refl
  column-same before (r ∷ rs) = go (below_or max_columns r) (fault_of_row n j before r) refl (column-same r rs)
    where
      go : (max_columns < r) ⊎ (r ≤ max_columns) → (f : ℕ) → fault_of_row n j before r ≡ f → fault_of_rows n j r (map narrowed rs) ≡ fault_of_rows n j r rs
          → fault_of_rows n j before (map narrowed (r ∷ rs)) ≡ fault_of_rows n j before (r ∷ rs)
      go (inl l) f e ih =
          let a = row-over n j before (narrowed r) (omega arith) (omega arith) in
          let b = row-over n j before r (omega arith) (omega arith) in
          rows-fault n j before (narrowed r) (map narrowed rs) (omega arith) ∙ a ∙ sym b ∙ sym (rows-fault n j before r rs (omega arith))
      go (inr l) zero e ih =
          let k : narrowed r ≡ r = omega arith in
          rw k (rows_next n j before r (map narrowed rs) e ∙ ih ∙ sym (rows_next n j before r rs e))
      go (inr l) (suc f) e ih =
          let k : narrowed r ≡ r = omega arith in
          rw k (rows-fault n j before r (map narrowed rs) (omega arith) ∙ sym (rows-fault n j before r rs (omega arith)))

take-map : (k : ℕ) (l : List ℕ) → take k (map narrowed l) ≡ map narrowed (take k l)
take-map zero l = refl
take-map (suc k) [] = refl
take-map (suc k) (x ∷ l) = ap (λ (m : List ℕ). narrowed x ∷ m) (take-map k l)

drop-map : (k : ℕ) (l : List ℕ) → drop k (map narrowed l) ≡ map narrowed (drop k l)
drop-map zero l = refl
drop-map (suc k) [] = refl
drop-map (suc k) (x ∷ l) = drop-map k l

column-kept : (starts rows : List ℕ) (j : ℕ) → column_of starts (map narrowed rows) j ≡ map narrowed (column_of starts rows j)
unfolding column_of
column-kept starts rows j = rw (take-map (start starts (suc j)) rows) (drop-map (start starts j) (take (start starts (suc j)) rows))

-- ---- the tests of a job

module _ (n : ℕ) (starts rows : List ℕ) (few : n ≤ max_columns) where
  fault-same : (j : ℕ) → j ≤ n → column_fault n starts (map narrowed rows) j ≡ column_fault n starts rows j
  unfolding column_fault
  fault-same j l = rw (column-kept starts rows j) (column-same n j few l j (column_of starts rows j))

  rows_same : rows_test n starts (map narrowed rows) ≡ rows_test n starts rows
  rows_same = faults-same (column_fault n starts (map narrowed rows)) (column_fault n starts rows) n (λ number j. answer number j 0) (λ j l h. fault-same j h)

-- two calls get the same refusal if each test finds the same in both
abbrev SameEach : {C : Type 0} → List (Refusal C) → C → C → Type 0
SameEach [] c d = Unit {0}
SameEach (r ∷ rs) c d = (r.test c ≡ r.test d) × SameEach rs c d

first-same : {C : Type 0} (rs : List (Refusal C)) (c d : C) → SameEach rs c d → first rs c ≡ first rs d
unfolding first
first-same [] c d h = refl
first-same (r ∷ rs) c d h = go (r.test d) refl (first-same rs c d h.1)
  where
    go : (v : Verdict) → r.test d ≡ v → first rs c ≡ first rs d → first (r ∷ rs) c ≡ first (r ∷ rs) d
    go passed e ih = first_passes r rs c (h.0 ∙ e) ∙ ih ∙ sym (first_passes r rs d e)
    go (refused a) e ih = first-refuses r rs c (h.0 ∙ e) ∙ sym (first-refuses r rs d e)

-- only the number of rows matters to the test of the starts
starts-same : (n : ℕ) (starts rows : List ℕ) → starts_test n starts (map narrowed rows) ≡ starts_test n starts rows
starts-same n starts rows = first-same _ _ _ (refl, (refl, (refl, (rw (length-map rows narrowed), tt))))

-- a job and the kept job get the same refusal
pub kept-tests : (job : Job) → first job_refusals (kept_job job) ≡ first job_refusals job
unfolding job_refusals
kept-tests job = go (below_or max_columns job.n)
  where
    go : (max_columns < job.n) ⊎ (job.n ≤ max_columns) → first job_refusals (kept_job job) ≡ first job_refusals job
    go (inl l) =
        let e = over-refuses max_columns job.n (answer 1 0 0) l in
        first-refuses _ _ (kept_job job) e ∙ sym (first-refuses _ _ job e)
    go (inr l) =
        first-same job_refusals (kept_job job) job
        (refl, (refl, (refl, (starts-same job.n job.starts job.rows, (rows_same job.n job.starts job.rows l, tt)))))
