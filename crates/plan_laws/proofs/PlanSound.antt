-- Proves that a plan that was read passes 16 to 20 and 9 exactly when it is sound. By 16 its steps are the columns 1 to n, each once; by 17
-- its lists are R(j); by 18 each subtree is in one piece; by 19 its pops are the numbers of children; 20 and 9 concern the peak.
-- Assumes nothing.
use Prim.Native.Nat.{ℕ, suc, ◌-◌, ◌≤◌}
use mathlib.Core.Path.{◌≡◌, refl, sym, ap, ◌∙◌}
use mathlib.Core.Logic.{◌↔◌}
use mathlib.Core.Bool.{Bool, false, not}
use mathlib.Core.List.{List, [], map}
use native.Mathlib.Omega.{arith}
use lib.Dec.{eqb, ltb}
use lib.ListN.{length, get_or, length-map}
use lib.Seq.{ext_get_or}
use borrow.Author.Tests.{eqb-true, eq-eqb, ltb-false, le-ltb, not-false}
use Rattle.papers.specs.Lists.{◌∈◌, Distinct, same, least}
use Rattle.papers.specs.Refusals.{passed, refused_at, first}
use Rattle.papers.specs.Job.{Job, Below, pattern}
use Rattle.papers.specs.Fill.{R}
use Rattle.papers.specs.Tree.{parent}
use Rattle.papers.specs.Order.{column_at_step, Together, pops_of, order_peak, scattered}
use Rattle.papers.specs.Key.{lists_of}
use Rattle.papers.specs.Plan.{Plan, columns_in, pops_in, Sound, Fit}
use Rattle.papers.specs.Analysis.{peak_over}
use Rattle.papers.specs.Check.{true_peak_of, JobPlan, column_repeated, judge_refusals, list_wrong, peak_wrong, pops_wrong, subtree_scattered}
use Rattle.list_laws.proofs.Leasts.{least-zero-iff}
use Rattle.list_laws.proofs.Members.{same_true, same_refl, map_at}
use Rattle.job_laws.proofs.Firsts.{passed-if-iff}
use Rattle.job_laws.proofs.Laid.{length-lists, lists_at}
use Rattle.order_laws.proofs.Steps.{one-step}
use Rattle.order_laws.proofs.Patterns.{tree_of}
use Rattle.order_laws.proofs.TogetherTest.{scattered-test}
use Rattle.refusal_laws.proofs.Agreements.{agree-passed-iff}
use Rattle.refusal_laws.proofs.Tests.{fails-iff, at-passed}
use Rattle.check_laws.proofs.PlanSteps.{Steps, fit-steps}
use Rattle.check_laws.proofs.PlanTests.{repeat-agree, once, all}
use Rattle.job_laws.proofs.Firsts.{◌&◌, Each, first-passed-iff}

-- a test that refuses at the least place passes exactly when no place is at fault
at-iff : (f : ℕ → Bool) (n number : ℕ) → (refused_at number (least f n) 0 ≡ passed) ↔ ((k : ℕ) → 1 ≤ k → k ≤ n → f k ≡ false)
unfolding refused_at
at-iff f n number = (
  λ e k l u. (fails-iff (f k) (λ q. q, λ q. q)).1 (at-passed f n (λ k l u. (λ q. q, λ q. q)) number 0 e k l u),
  λ h. rw ((least-zero-iff f n).1 h),
)

-- two lists of length n are equal if they agree at each of the places 1 to n
one_list : {B : Type 0} (d : B) (n : ℕ) (xs ys : List B) → length xs ≡ n → length ys ≡ n
    → ((k : ℕ) → 1 ≤ k → k ≤ n → get_or xs (k - 1) d ≡ get_or ys (k - 1) d) → xs ≡ ys
one_list d n xs ys a b h =
    ext_get_or d xs ys (a ∙ sym b) (λ i l. let e : suc i - 1 ≡ i = omega arith in rw e at (h (suc i) (omega arith) (omega arith)))

module _ (job : Job) (plan : Plan) (fit : Fit job.n plan) where
  abbrev x : JobPlan
  x = record { job = job; plan = plan }

  abbrev order : List ℕ
  order = columns_in plan.steps

  abbrev pops : ℕ → ℕ
  pops = pops_of job.n (pattern job)

  -- the plan that was read has n steps, of columns 1 to n
  read : Steps job.n job.n (columns_in plan.steps)
  read = fit-steps fit

  -- 16 passes exactly when no column is done twice
  pub repeat-iff : (column_repeated.test x ≡ passed) ↔ Distinct (columns_in plan.steps)
  repeat-iff = (
    once x fit,
    λ d. (agree-passed-iff _ _ (repeat-agree x fit)).1 (λ a (s, (i, (k, l, e), none), q). omega
        (arith, one-step order d k s l.0 (omega (arith, read.0)) i.0 (omega (arith, read.0)) e)),
  )

  -- 17 passes exactly when each list is R(j)
  pub list-iff : (list_wrong.test x ≡ passed) ↔ (plan.lists ≡ lists_of job.n (R (pattern job)))
  list-iff =
      let i = at-iff (λ j. not (same (get_or plan.lists (j - 1) []) (R (pattern job) j))) job.n 17 in (
        λ e. one_list [] job.n plan.lists (lists_of job.n (R (pattern job))) fit.all-lists (length-lists (R (pattern job)) job.n)
            (λ k l u. same_true _ _ (not-false _ (i.0 e k l u)) ∙ sym (here k l u)),
        λ e. i.1 (λ k l u. rw (e, here k l u, same_refl (R (pattern job) k))),
      )
    where
      here : (k : ℕ) → 1 ≤ k → k ≤ job.n → get_or (lists_of job.n (R (pattern job))) (k - 1) [] ≡ R (pattern job) k
      here k l u = lists_at (R (pattern job)) job.n (k - 1) (omega arith) ∙ ap (R (pattern job)) (omega arith)

  -- 19 passes exactly when each step pops its column's number of children
  pub pops-iff : (pops_wrong.test x ≡ passed) ↔ (pops_in plan.steps ≡ map (pops_of job.n (pattern job)) (columns_in plan.steps))
  unfolding column_at_step
  pops-iff =
      let i = at-iff (λ s. not (eqb (get_or (pops_in plan.steps) (s - 1) 0) (pops (column_at_step order s)))) job.n 19 in (
        λ e. one_list 0 job.n (pops_in plan.steps) (map pops order) (length-map plan.steps (λ x. x.1) ∙ fit.all-steps)
            (length-map order pops ∙ read.0)
            (λ k l u. eqb-true _ _ (not-false _ (i.0 e k l u)) ∙ sym (here k l u)),
        λ e. i.1 (λ k l u. rw (e, here k l u, eq-eqb (pops (column_at_step order k)) (pops (column_at_step order k)) refl)),
      )
    where
      here : (k : ℕ) → 1 ≤ k → k ≤ job.n → get_or (map pops order) (k - 1) 0 ≡ pops (get_or order (k - 1) 0)
      here k l u = map_at pops order (k - 1) 0 0 (omega (arith, read.0))

  -- 20 passes exactly when the declared peak is the peak
  declared-iff : (peak_wrong.test x ≡ passed) ↔ (plan.peak ≡ order_peak job.n (pattern job) (columns_in plan.steps))
  unfolding true_peak_of
  declared-iff =
      let i = passed-if-iff (not (eqb plan.peak (true_peak_of job plan))) _ in
      (λ e. eqb-true _ _ (not-false _ (i.0 e)), λ e. i.1 (rw (eq-eqb plan.peak (true_peak_of job plan) e)))

  -- 9 passes exactly when the peak is within the limit
  within-iff : ((peak_over (λ (x : JobPlan). true_peak_of x.job x.plan) (λ x. x.job)).test x ≡ passed) ↔ (true_peak_of job plan ≤ job.limit)
  within-iff =
      let i = passed-if-iff (ltb job.limit (true_peak_of job plan)) _ in
      (λ e. ltb-false job.limit (true_peak_of job plan) (i.0 e), λ h. i.1 (le-ltb job.limit (true_peak_of job plan) h))

  module _ (below : Below job.n (pattern job)) where
    -- 18 passes exactly when each subtree is in one piece, if the steps do each column once
    pub subtree-iff : ((j : ℕ) → (j ∈ columns_in plan.steps) ↔ ((1 ≤ j) × (j ≤ job.n))) → Distinct (columns_in plan.steps)
        → (subtree_scattered.test x ≡ passed) ↔ ((s : ℕ) → 1 ≤ s → s ≤ length (columns_in plan.steps)
        → Together (parent (pattern job)) (columns_in plan.steps) s)
    subtree-iff each d =
        let i = at-iff (scattered (parent (pattern job)) job.n order) job.n 18 in
        let t = scattered-test (tree_of below) order each d in (
          λ e s l u. (t s l u).0 (i.0 e s l (omega (arith, read.0))),
          λ h. i.1 (λ s l u. (t s l (omega (arith, read.0))).1 (h s l (omega (arith, read.0)))),
        )

    -- a plan that was read passes 16 to 20 and 9 exactly when it is sound
    pub sound-iff : (first judge_refusals x ≡ passed) ↔ Sound job plan
    unfolding true_peak_of judge_refusals
    sound-iff = let each = first-passed-iff judge_refusals x in (λ p. from (each.0 p), λ s. each.1 (into s))
      where
        from : Each (λ v. v ≡ passed) judge_refusals x → Sound job plan
        from (repeats, (lists, (subtrees, (pops, (declared, (within, none)))))) =
            let each : (j : ℕ) → (j ∈ order) ↔ ((1 ≤ j) × (j ≤ job.n)) = λ j. (read.1 j, λ (l, u). all x fit repeats j l u) in
            let once = repeat-iff.0 repeats in
            let true-peak = declared-iff.0 declared in
            record {
              ordered = record { each = each; once = once; together = (subtree-iff each once).0 subtrees };
              pops = pops-iff.0 pops;
              rows = list-iff.0 lists;
              declared = true-peak;
              within = rw true-peak (within-iff.0 within);
            }

        into : Sound job plan → Each (λ v. v ≡ passed) judge_refusals x
        into s =
            repeat-iff.1 s.ordered.once
            & list-iff.1 s.rows
            & (subtree-iff s.ordered.each s.ordered.once).1 s.ordered.together
            & pops-iff.1 s.pops
            & declared-iff.1 s.declared
            & within-iff.1 (rw (← s.declared) s.within)
            & tt
