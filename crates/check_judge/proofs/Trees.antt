-- Proves that for a plan whose lists are R, the passes over the slices find what the tests name, and that an order that passes them pops no more than
-- is held.
-- Assumes nothing.
use Prim.Native.Nat.{ℕ, suc, ◌-◌, ◌<◌, ◌≤◌}
use mathlib.Core.Path.{◌≡◌, sym, ap, ◌∙◌}
use mathlib.Core.Logic.{◌↔◌, ◌≢◌}
use mathlib.Core.Bool.{not}
use mathlib.Core.List.{List, [], ◌∷◌, map}
use native.Mathlib.Omega.{arith}
use lib.Dec.{eqb}
use lib.ListN.{length, get_or, length-map}
use borrow.Author.Tests.{eq-eqb, ne_eqb}
use Rattle.papers.specs.declared.Answer.{Answer}
use Rattle.papers.specs.Analysis.{peak_over}
use Rattle.papers.specs.Lists.{◌∈◌, least, up_to, starts_counted_from}
use Rattle.papers.specs.Refusals.{answer, passed, first}
use Rattle.papers.specs.Job.{Job, pattern}
use Rattle.papers.specs.Tree.{t, parent, row_count, children}
use Rattle.papers.specs.Room.{peak_of}
use Rattle.papers.specs.Order.{column_at_step, Ordered, pops_of, order_peak, scattered}
use Rattle.papers.specs.Plan.{Plan, columns_in, pops_in}
use Rattle.papers.specs.Check.{pops_wrong, true_peak_of, subtree_scattered, peak_wrong}
use Rattle.list_laws.proofs.Members.{at_place}
use Rattle.order_laws.specs.Stack.{held_columns}
use Rattle.order_laws.proofs.Steps.{column-at}
use Rattle.order_laws.proofs.Takes.{step-enough}
use Rattle.order_laws.proofs.Entries.{held-entries}
use Rattle.order_laws.proofs.Patterns.{tree_of, root-rows}
use Rattle.job_laws.proofs.Firsts.{◌&◌, first-passed-iff, refused-if, passed-if, over-refuses, over-passes-iff}
use Rattle.check_laws.proofs.PlanTests.{all}
use Rattle.plan_laws.proofs.PlanSound.{list-iff, pops-iff, subtree-iff}
use Rattle.tree.specs.Parents.{parent_in}
use Rattle.room.specs.Rows.{row_count_in, ColumnStarts}
use Rattle.room.specs.Steps.{rows_at, pops_of_step, entries_at, StepsDoable}
use Rattle.room.proofs.BySteps.{peak-by-steps, enough-by-steps}
use Rattle.order.proofs.Families.{column-of}
use Rattle.order.proofs.Ties.{starts_of, length-parents, rows-tie, rowed}
use Rattle.check_steps.specs.Steps.{pops_differ}
use Rattle.std.specs.Prelude.{Option, Some, None}
use Rattle.refusals.specs.Answers.{place_if_any}
use Rattle.check_judge.specs.Judged.{OnTree, tree_refusals, ruling, plan_from}
use Rattle.check_judge.proofs.Rulings.{ruling-refused, ruling-passed, decides, place-refuses, place-passes}
use Rattle.check_judge.proofs.Stored.{read, order-length, in-range}
use Rattle.check_judge.proofs.OnTrees.{below, columns-few, parents-length, same-parents, as_long, pops-as-long, once}

module _ {job : Job} {plan : Plan} {limit claimed : ℕ} {parents order pops fstarts : List ℕ} (on : OnTree job plan limit claimed parents order pops
    fstarts) where
  -- ---- 18
  module _ {top : Option ℕ} (e : top ≡ place_if_any (least (scattered (parent_in parents) (length parents) order) (length parents))) where
    found-18 : top ≡ place_if_any (least (scattered (parent (pattern job)) job.n (columns_in plan.steps)) job.n)
    found-18 = rw (same-parents on, parents-length on, on.stored.columns) at e

    pub refuses-18 : {p : ℕ} → top ≡ Some p → {r : Answer} → r ≡ answer 18 p 0 → r ≡ ruling (first tree_refusals (plan_from job plan)) claimed
    unfolding tree_refusals
    refuses-18 is q = ruling-refused claimed (decides [] subtree_scattered _ (plan_from job plan) tt (place-refuses 18 _ found-18 is)) q

    pub passes-18 : top ≡ None → subtree_scattered.test (plan_from job plan) ≡ passed
    passes-18 is = place-passes 18 _ found-18 is

  module _ (whole : subtree_scattered.test (plan_from job plan) ≡ passed) where
    -- ---- 19
    module _ {step : Option ℕ} (e : step ≡ place_if_any (least (pops_differ parents order pops) (length order))) where
      found-19 : step ≡ place_if_any (least (λ s. not (eqb (get_or (pops_in plan.steps) (s - 1) 0)
          (pops_of job.n (pattern job) (column_at_step (columns_in plan.steps) s)))) job.n)
      found-19 =
          e
          ∙ λ i. place_if_any (least (λ s. not (eqb (get_or (on.stored.popped i) (s - 1) 0)
          (length (children (same-parents on i) (parents-length on i) (column_at_step (on.stored.columns i) s))))) (order-length on.stored i))

      pub refuses-19 : {p : ℕ} → step ≡ Some p → {r : Answer} → r ≡ answer 19 p 0 → r ≡ ruling (first tree_refusals (plan_from job plan)) claimed
      unfolding tree_refusals
      refuses-19 is q =
          ruling-refused claimed (decides (subtree_scattered ∷ []) pops_wrong _ (plan_from job plan) (whole, tt) (place-refuses 19 _ found-19 is)) q

      pub passes-19 : step ≡ None → pops_wrong.test (plan_from job plan) ≡ passed
      passes-19 is = place-passes 19 _ found-19 is

    -- ---- 20 and 9

    ordered : Ordered (parent (pattern job)) job.n order
    ordered =
        rw on.stored.columns (record {
          each = each;
          once = once on;
          together = (subtree-iff job plan on.stored.fit (below on) each (once on)).0
              whole;
        })
      where
        each : (j : ℕ) → (j ∈ columns_in plan.steps) ↔ ((1 ≤ j) × (j ≤ job.n))
        each j = ((read on.stored).1 j, λ (l, u). all (plan_from job plan) on.stored.fit on.unrepeated j l u)

    -- the slice holds the starts of the lists R
    factor-are : fstarts ≡ starts_of job.n (pattern job)
    factor-are = on.stored.begins ∙ ap (starts_counted_from 0) ((list-iff job plan on.stored.fit).0 on.right)

    rows-here : (j : ℕ) → row_count_in fstarts j ≡ row_count (pattern job) j
    rows-here = rw factor-are (rows-tie (below on))

    column : (j : ℕ) → 1 ≤ j → j ≤ job.n → ColumnStarts fstarts j
    column j l u = rw factor-are (column-of (rowed (below on) (columns-few on)) j l (omega (arith, length-parents (below on))))

    module _ (popped : pops_wrong.test (plan_from job plan) ≡ passed) where
      pops-are : pops ≡ map (pops_of job.n (pattern job)) order
      pops-are = on.stored.popped ∙ (pops-iff job plan on.stored.fit).0 popped ∙ ap (map (pops_of job.n (pattern job))) (sym on.stored.columns)

      enough : (k : ℕ) → k < length order → pops_of_step pops (suc k) ≤ length (entries_at fstarts order pops k)
      enough k h = rw pops-are (enough-by-steps (row_count_in fstarts) (pops_of job.n (pattern job)) order k h (
          rw (
            held-entries (row_count_in fstarts) (pops_of job.n (pattern job)) (parent (pattern job)) (λ j. rw (rows-here j) (root-rows (below on) j))
                order k (omega arith),
            ← (column-at order k),
          )
          (omega (
            arith,
            length-map (held_columns (parent (pattern job)) (pops_of job.n (pattern job)) order k) (λ c. t (row_count_in fstarts c)),
            step-enough (tree_of (below on)) order ordered k h,
          ))))

      pub stepped : StepsDoable fstarts order pops
      stepped = record {
        column = λ k h. let (l, u) = in-range on.stored (get_or order k 0) (at_place order k h) in column (get_or order k 0) l u;
        enough = enough;
        same = pops-as-long on ∙ sym (as_long on);
        few = omega (arith, as_long on, parents-length on, columns-few on);
      }

      module _ {peak : ℕ} (e : peak ≡ peak_of (rows_at fstarts order) (pops_of_step pops) (up_to (length order))) where
        found-20 : peak ≡ true_peak_of job plan
        unfolding true_peak_of order_peak
        found-20 =
            (rw pops-are at e)
            ∙ peak-by-steps (row_count_in fstarts) (pops_of job.n (pattern job)) order
            ∙ λ i. peak_of (λ j. rows-here j i) (pops_of job.n (pattern job)) (on.stored.columns i)

        pub refuses-20 : peak ≢ claimed → {r : Answer} → r ≡ answer 20 0 peak → r ≡ ruling (first tree_refusals (plan_from job plan)) claimed
        unfolding tree_refusals
        refuses-20 z q =
            let differ : plan.peak ≢ true_peak_of job plan = λ d. z (found-20 ∙ sym d ∙ on.stored.declared) in
            ruling-refused claimed (decides (subtree_scattered ∷ pops_wrong ∷ []) peak_wrong _ (plan_from job plan) (whole, (popped, tt))
            (refused-if _ _ (rw (ne_eqb plan.peak (true_peak_of job plan) differ)))) (q ∙ ap (answer 20 0) found-20)

        module _ (declared : peak ≡ claimed) where
          passes-20 : peak_wrong.test (plan_from job plan) ≡ passed
          passes-20 = passed-if _ _ (rw (eq-eqb plan.peak (true_peak_of job plan) (on.stored.declared ∙ sym declared ∙ found-20)))

          pub refuses-9 : limit < peak → {r : Answer} → r ≡ answer 9 0 peak → r ≡ ruling (first tree_refusals (plan_from job plan)) claimed
          unfolding tree_refusals
          refuses-9 l q =
              ruling-refused claimed
              (decides (subtree_scattered ∷ pops_wrong ∷ peak_wrong ∷ []) (peak_over (λ x. true_peak_of x.job x.plan) (λ x. x.job)) [] (plan_from job plan)
              (whole, (popped, (passes-20, tt))) (over-refuses job.limit (true_peak_of job plan) _ (omega (arith, on.limited, found-20))))
              (q ∙ ap (answer 9 0) found-20)

          pub passes-all : peak ≤ limit → {r : Answer} → r ≡ answer 0 0 peak → r ≡ ruling (first tree_refusals (plan_from job plan)) claimed
          unfolding tree_refusals
          passes-all l q =
              ruling-passed claimed
              ((first-passed-iff tree_refusals (plan_from job plan)).1
              (whole & popped & passes-20 & (over-passes-iff job.limit (true_peak_of job plan) _).1 (omega (arith, on.limited, found-20)) & tt))
              (q ∙ ap (answer 0 0) declared)
