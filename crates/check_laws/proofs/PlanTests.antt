-- Proves that the tests of a plan that was read (16 to 20) agree with their conditions. A repeat is found among the steps before it;
-- without repeats the steps are an order of all columns, and the test of subtrees relies on that.
-- Assumes nothing.
use Prim.Native.Nat.{ℕ, zero, suc, ◌-◌, ◌≤◌}
use mathlib.Core.Path.{◌≡◌, sym, ◌∙◌}
use mathlib.Core.Logic.{◌↔◌, ◌⊎◌, inl, inr}
use mathlib.Core.Bool.{true}
use mathlib.Core.List.Memᴰ
use mathlib.Core.List.{List, [], ◌∷◌}
use native.Mathlib.Omega.{arith}
use lib.ListN.{length, take}
use Rattle.papers.specs.Lists.{◌∈◌, Distinct, member, same, up_to, nth}
use Rattle.papers.specs.Refusals.{passed}
use Rattle.papers.specs.Job.{pattern, Below}
use Rattle.papers.specs.Fill.{R}
use Rattle.papers.specs.Order.{column_at_step}
use Rattle.papers.specs.Plan.{pops_in, Fit}
use Rattle.papers.specs.Check.{repeated_at, true_peak_of, Repeated, JobPlan, judge_refusals, list_wrong, peak_wrong, pops_wrong, column_repeated, columns}
use Rattle.papers.specs.Check.{list_of_plan_at, children_at, subtree_scattered}
use Rattle.list_laws.proofs.Tests.{Test, passes, fails, test, true-false}
use Rattle.list_laws.proofs.Members.{member-true, member-into, same_true, same_refl}
use Rattle.list_laws.proofs.Counts.{distinct-length}
use Rattle.list_laws.proofs.UpTo.{up_to-into, length-up_to}
use Rattle.order_laws.proofs.Steps.{column-at, slice-steps, step_of}
use Rattle.order_laws.proofs.Patterns.{tree_of}
use Rattle.order_laws.proofs.TogetherTest.{scattered-test}
use Rattle.refusal_laws.proofs.Agreements.{Agree, AgreeEach, ◌▸◌}
use Rattle.refusal_laws.proofs.Tests.{not_iff, differ-iff, unless-iff, agree-if, agree-exceeds, agree_at, at-passed}
use Rattle.check_laws.proofs.PlanSteps.{Steps, fit-steps}

-- ---- 16

-- the test looks for a step's column among the steps before it
repeated-iff : (order : List ℕ) (s : ℕ) → 1 ≤ s → s ≤ length order → (repeated_at order s ≡ true) ↔ Repeated order s
unfolding repeated_at
repeated-iff order s l u =
    let i = slice-steps order (column_at_step order s) 0 (s - 1) (omega arith) in (
      λ e. let k = i.0 (member-true (column_at_step order s) (take (s - 1) order) e) in (k.step, (k.behind, let w = k.within in omega arith), k.is),
      λ (k, r, e). member-into (column_at_step order s) (take (s - 1) order) (i.1 (record { step = k; behind = r.0; within = omega arith; is = e })),
    )

-- an order that the test of 16 passes has no column twice
column-later : (y : ℕ) (l : List ℕ) (s : ℕ) → 1 ≤ s → column_at_step (y ∷ l) (suc s) ≡ column_at_step l s
column-later y l zero h = absurd (omega arith)
column-later y l (suc s) h = column-at (y ∷ l) (suc s) ∙ sym (column-at l s)

unrepeated-distinct : (l : List ℕ) → ((s : ℕ) → 1 ≤ s → s ≤ length l → ¬ Repeated l s) → Distinct l
unrepeated-distinct [] h = tt
unrepeated-distinct (y ∷ l) h = (twice, unrepeated-distinct l (λ s a b r. h (suc s) (omega arith) (omega arith) (later s r)))
  where
    later : (s : ℕ) → Repeated l s → Repeated (y ∷ l) (suc s)
    later s (k, r, e) = (suc k, (omega arith, omega arith), column-later y l k r.0 ∙ e ∙ sym (column-later y l s (omega arith)))

    twice : ¬ (y ∈ l)
    twice m =
        let k = step_of l y m in
        h (suc k.step) (omega arith) (omega (arith, k.within))
        (1, (omega arith, omega (arith, k.behind)), column-at (y ∷ l) 0 ∙ sym (column-later y l k.step k.behind ∙ k.is))

module _ (x : JobPlan) (fit : Fit x.job.n x.plan) where
  read : Steps x.job.n x.job.n (columns x)
  read = fit-steps fit

  repeats : (s : ℕ) → 1 ≤ s → s ≤ x.job.n → (repeated_at (columns x) s ≡ true) ↔ Repeated (columns x) s
  repeats s l u = repeated-iff (columns x) s l (omega (arith, read.0))

  -- the test of 16 agrees with its condition
  pub repeat-agree : Agree (column_repeated.test x) (column_repeated.gives x)
  repeat-agree = agree_at _ x.job.n repeats (λ p. 16) (λ p. 0) (λ p l u h. omega arith)

  module _ (pass : column_repeated.test x ≡ passed) where
    pub once : Distinct (columns x)
    once = unrepeated-distinct (columns x) (λ s l u. at-passed _ x.job.n repeats 16 0 pass s l (omega (arith, read.0)))

    pub all : (j : ℕ) → 1 ≤ j → j ≤ x.job.n → j ∈ columns x
    all j l u = go (test (member j (columns x)))
      where
        within : (i : ℕ) → (i ≡ j) ⊎ (i ∈ columns x) → i ∈ up_to x.job.n
        within i (inl e) = rw e (up_to-into x.job.n j l u)
        within i (inr m) = let (a, b) = read.1 i m in up_to-into x.job.n i a b

        go : Test (member j (columns x)) → j ∈ columns x
        go (passes e) = member-true j (columns x) e
        go (fails e) =
            absurd (omega (
              arith,
              read.0,
              length-up_to x.job.n,
              distinct-length (j ∷ columns x) (up_to x.job.n) (λ m. true-false (member-into j (columns x) m) e, once)
                  (λ i m. within i (Memᴰ.cases_cons m)),
            ))

    -- the test of 18 agrees with its condition
    pub subtree-agree : Below x.job.n (pattern x.job) → Agree (subtree_scattered.test x) (subtree_scattered.gives x)
    subtree-agree below =
        agree_at _ x.job.n
        (λ s l u. unless-iff _ (scattered-test (tree_of below) (columns x) (λ j. (read.1 j, λ (a, b). all j a b)) once s l (omega (arith, read.0))))
        (λ p. 18) (λ p. 0) (λ p l u h. omega arith)

-- ---- 17, 19, 20

-- the tests of 17, 19 and 20 agree with their conditions
module _ (x : JobPlan) where
  pub list-agree : Agree (list_wrong.test x) (list_wrong.gives x)
  list-agree =
      agree_at _ x.job.n (λ j l u. not_iff _ (same-iff (list_of_plan_at x.plan j) (R (pattern x.job) j))) (λ p. 17) (λ p. 0)
      (λ p l u h. omega arith)
    where
      same-iff : (xs ys : List ℕ) → (same xs ys ≡ true) ↔ (xs ≡ ys)
      same-iff xs ys = (same_true xs ys, λ e. rw e (same_refl ys))

  pub pops-agree : Agree (pops_wrong.test x) (pops_wrong.gives x)
  pops-agree =
      agree_at _ x.job.n (λ s l u. differ-iff (nth (pops_in x.plan.steps) s) (children_at x s)) (λ p. 19) (λ p. 0) (λ p l u h. omega arith)

  pub declared-agree : Agree (peak_wrong.test x) (peak_wrong.gives x)
  declared-agree = agree-if _ _ (omega arith) (differ-iff x.plan.peak (true_peak_of x.job x.plan))

-- ---- 16 to 20, then 9

-- each test of a plan agrees with its condition
pub judge-agree : (x : JobPlan) → Fit x.job.n x.plan → Below x.job.n (pattern x.job) → AgreeEach judge_refusals x
unfolding judge_refusals
judge-agree x fit below =
    repeat-agree x fit
    ▸ λ unrepeated. list-agree x
    ▸ λ p. subtree-agree x fit unrepeated below
    ▸ λ p. pops-agree x
    ▸ λ p. declared-agree x
    ▸ λ p. agree-exceeds 9 _ _ (omega arith)
    ▸ λ p. tt
