-- Proves that the numbers of a sound plan are in their ranges, so its bytes can be read; and that the plan of a job whose peak is within
-- the limit is sound.
-- Assumes nothing.
use Prim.Native.Nat.{ℕ, ◌-◌, ◌≤◌}
use mathlib.Core.Path.{refl, sym, ◌∙◌}
use native.Mathlib.Omega.{arith}
use lib.ListN.{length-map}
use Rattle.papers.specs.Lists.{up_to}
use Rattle.papers.specs.Job.{Job, Pattern, Below, pattern}
use Rattle.papers.specs.Fill.{R}
use Rattle.papers.specs.Tree.{parent}
use Rattle.papers.specs.Order.{children_of, pops_of, order_of}
use Rattle.papers.specs.Plan.{Plan, columns_in, plan_for, plan_of, Sound, Fit}
use Rattle.job_laws.specs.Passed.{Passed}
use Rattle.list_laws.proofs.Counts.{distinct-length}
use Rattle.list_laws.proofs.UpTo.{up_to-into, length-up_to}
use Rattle.fill_laws.proofs.Fill.{R-asc, R-range}
use Rattle.job_laws.proofs.Passed.{passed-below}
use Rattle.job_laws.proofs.Laid.{length-lists}
use Rattle.job_laws.proofs.Keys.{lists-fit}
use Rattle.order_laws.proofs.Subtrees.{children-are, children-distinct}
use Rattle.order_laws.proofs.Orders.{ordered-length}
use Rattle.order_laws.proofs.Patterns.{tree_of, order-ordered}
use Rattle.order_laws.proofs.RoomBounds.{ordered-peak-fits}
use Rattle.plan_laws.proofs.Steps.{columns-made, pops-made, steps-fit}

-- a column has at most n - 1 children, since they are lower columns
pops-fit : {n : ℕ} {A : Pattern} → Below n A → (j : ℕ) → 1 ≤ j → j ≤ n → pops_of n A j ≤ n - 1
pops-fit {n} {A} below j l u =
    omega (
      arith,
      length-up_to (n - 1),
      distinct-length (children_of n A j) (up_to (n - 1)) (children-distinct (parent A) n j)
          (λ i m. let (a, b, e) = (children-are (parent A) n j i).0 m in up_to-into (n - 1) i a (omega (arith, (tree_of below).above i (omega arith)))),
    )

module _ (job : Job) (valid : Passed job) where
  below : Below job.n (pattern job)
  below = passed-below job valid

  -- every number of a sound plan is in its range
  pub sound-fits : (plan : Plan) → Sound job plan → Fit job.n plan
  sound-fits plan s = record {
    all-steps = sym (length-map plan.steps (λ x. x.0)) ∙ ordered-length (columns_in plan.steps) s.ordered;
    steps = steps-fit job.n (pops_of job.n (pattern job)) plan.steps (λ j m. let (l, u) = (s.ordered.each j).0 m in
        (l, u, pops-fit below j l u)) s.pops;
    all-lists = rw s.rows (length-lists (R (pattern job)) job.n);
    lists = rw s.rows (lists-fit job.n (R (pattern job)) (λ j. (R-asc below j, λ i m. (R-range below j i m).1)) job.n);
    peak = rw s.declared (ordered-peak-fits below valid.few (columns_in plan.steps) s.ordered);
  }

  -- the plan of a job is sound, under every mark
  pub planned-sound : (plan_of job).peak ≤ job.limit → Sound job (plan_of job)
  unfolding plan_of plan_for
  planned-sound h =
      let order = order_of job.mark job.n (pattern job) in
      let columns = columns-made (pops_of job.n (pattern job)) order in
      record {
        ordered = rw columns (order-ordered below job.mark);
        pops = rw columns (pops-made (pops_of job.n (pattern job)) order);
        rows = refl;
        declared = rw columns;
        within = h;
      }
