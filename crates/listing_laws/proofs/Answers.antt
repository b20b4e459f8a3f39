-- Proves that the answers which a listing may print of a job have small numbers: places are columns, and counts are rows needed or a peak,
-- which are small for a job that passes its tests.
-- Assumes nothing.
use Prim.Native.Nat.{ℕ, zero, suc, ◌*◌, ◌^◌, ◌<◌, ◌≤◌}
use mathlib.Core.Path.{◌≡◌, refl}
use mathlib.Core.Bool.{Bool, true, false}
use mathlib.Core.List.{List, [], ◌∷◌, append-nil}
use native.Mathlib.Omega.{arith}
use native.Mathlib.Nat.{mul-le-mul}
use lib.ListN.{length, length-append}
use Rattle.papers.specs.declared.Answer.{Answer}
use Rattle.papers.specs.Bounds.{max_columns}
use Rattle.papers.specs.Lists.{least, flat}
use Rattle.papers.specs.Refusals.{answer, Verdict, passed, refused, refused_if, refused_at, first}
use Rattle.papers.specs.Job.{Job, Pattern, pattern, column_of, falls_at_place, column_fault, job_refusals}
use Rattle.papers.specs.Fill.{R}
use Rattle.papers.specs.Key.{lists_of}
use Rattle.papers.specs.Plan.{plan_of, plan_for}
use Rattle.papers.specs.Analysis.{Lent, early_refusals, AnalysisCall, analysis_early, analysis_late}
use Rattle.job_laws.specs.Passed.{Passed, starts_test, rows_test}
use Rattle.list_laws.proofs.Leasts.{least-found-iff}
use Rattle.list_laws.proofs.Stores.{flat_append}
use Rattle.job_laws.proofs.Firsts.{◌&◌, first-each}
use Rattle.job_laws.proofs.Faults.{faults-each}
use Rattle.job_laws.proofs.Rows.{rows-at-most}
use Rattle.job_laws.proofs.Passed.{passed-below}
use Rattle.job_laws.proofs.Laid.{lists-none, lists-more}
use Rattle.order_laws.proofs.Patterns.{rows_fit, order-ordered}
use Rattle.order_laws.proofs.RoomBounds.{ordered-peak-fits}

-- a refusal whose three numbers fit machine numbers
abbrev pub Small : Answer → Type 0
Small a = (0 < a.number) × (a.number < 2 ^ 64) × (a.place < 2 ^ 64) × (a.count < 2 ^ 64)

-- a verdict that gives no other refusals
abbrev pub SmallIn : Verdict → Type 0
SmallIn passed = Unit {0}
SmallIn (refused a) = Small a

pub small-if : (b : Bool) (a : Answer) → Small a → SmallIn (refused_if b a)
unfolding refused_if
small-if true a s = s
small-if false a s = tt

-- an answer without a count
pub small_at : (number place : ℕ) → 0 < number → number ≤ 26 → place < 2 ^ 64 → Small (answer number place 0)
small_at number place a b c = (a, omega arith, c, omega arith)

-- ---- 4 to 6

starts-small : (n : ℕ) (starts rows : List ℕ) → n < 2 ^ 64 → SmallIn (starts_test n starts rows)
unfolding refused_at
starts-small n starts rows h =
    first-each SmallIn _ _ tt
    (small-if _ _ (small_at 4 0 (omega arith) (omega arith) (omega arith))
    & small-if _ _ (small_at 4 0 (omega arith) (omega arith) (omega arith))
    & falls (least (falls_at_place starts) n) refl
    & small-if _ _ (small_at 4 n (omega arith) (omega arith) h)
    & tt)
  where
    falls : (p : ℕ) → least (falls_at_place starts) n ≡ p → SmallIn (refused_at 4 p 0)
    falls zero e = tt
    falls (suc j) e = let l = ((least-found-iff (falls_at_place starts) n j).0 e).0 in small_at 4 (suc j) (omega arith) (omega arith) (omega arith)

rows-small : (n : ℕ) (starts rows : List ℕ) → n < 2 ^ 64 → SmallIn (rows_test n starts rows)
unfolding column_fault
rows-small n starts rows h =
    faults-each (column_fault n starts rows) n (λ number j. answer number j 0) SmallIn tt (λ k l u f. small_at (column_fault n starts rows k) k f
    (omega (arith, rows-at-most n k k (column_of starts rows k))) (omega arith))

-- ---- 8 and 9

-- lists of at most this many rows each
flat-few : (B : Pattern) (b m : ℕ) → ((j : ℕ) → length (B j) ≤ b) → length (flat (lists_of m B)) ≤ m * b
unfolding flat
flat-few B b zero h = rw (lists-none B) (omega arith)
flat-few B b (suc m) h =
    rw (lists-more B m, flat_append (lists_of m B) (B (suc m) ∷ []), append-nil (B (suc m)))
    (omega (arith, length-append (flat (lists_of m B)) (B (suc m)), flat-few B b m h, h (suc m)))

module _ (job : Job) (lent : Lent) where
  abbrev call : AnalysisCall
  call = record { job = job; lent = lent }

  -- the early answers: 1 to 7
  pub early-small : job.n < 2 ^ 64 → SmallIn (first analysis_early call)
  unfolding analysis_early early_refusals job_refusals
  early-small h =
      first-each SmallIn analysis_early call tt
      (small-if _ _ (small_at 1 0 (omega arith) (omega arith) (omega arith))
      & small-if _ _ (small_at 2 0 (omega arith) (omega arith) (omega arith))
      & small-if _ _ (small_at 3 0 (omega arith) (omega arith) (omega arith))
      & starts-small job.n job.starts job.rows h
      & rows-small job.n job.starts job.rows h
      & small-if _ _ (small_at 7 0 (omega arith) (omega arith) (omega arith))
      & tt)

  -- the late ones, 8 and 9, of a job that passes
  pub late-small : Passed job → SmallIn (first analysis_late call)
  unfolding analysis_late plan_of plan_for
  late-small p =
      let few = p.few in
      let below = passed-below job p in
      let most : job.n * job.n ≤ max_columns * max_columns = mul-le-mul few few in
      let rows = flat-few (R (pattern job)) job.n job.n (λ j. omega (arith, rows_fit below j)) in
      let peak = ordered-peak-fits below few _ (order-ordered below job.mark) in
      first-each SmallIn analysis_late call tt
      (small-if _ _ (omega arith, omega arith, omega arith, omega arith)
      & small-if _ _ (omega arith, omega arith, omega arith, omega arith)
      & tt)
