-- Proves how long the lists of a plan of n columns are, and so which parts of slices that hold the plan are its lists.
-- Assumes nothing.
use Prim.Native.Nat.{ℕ, suc, ◌+◌, ◌≤◌}
use mathlib.Core.Path.{◌≡◌, refl, sym, ap, ◌∙◌}
use mathlib.Core.List.{List}
use native.Mathlib.Omega.{arith}
use lib.ListN.{length, get_or, length-map, get_or-append}
use Rattle.papers.specs.Lists.{flat, starts_counted_from, then_zeros}
use Rattle.papers.specs.Job.{Job, start}
use Rattle.papers.specs.Plan.{Plan, columns_in, pops_in, Fit}
use Rattle.papers.specs.Analysis.{Lent, holding_plan}
use Rattle.list_laws.proofs.Stores.{length-then-zeros, take-then-zeros, length-starts}
use Rattle.job_laws.specs.Parts.{InSlices, Parts}
use Rattle.job_laws.proofs.Starts.{start-at}
use Rattle.job_laws.proofs.Laid.{laid-starts}

-- slices that hold a plan begin with its lists
pub holding-in-slices : (job : Job) (plan : Plan) (lent : Lent) {after : Lent} → after ≡ holding_plan job plan lent
    → InSlices plan lent after.order after.pops after.factor_starts after.factor_rows
unfolding holding_plan
holding-in-slices job plan lent h = record {
  columns = ap (λ (l : Lent). l.order) h;
  popped = ap (λ (l : Lent). l.pops) h;
  begins = ap (λ (l : Lent). l.factor_starts) h;
  listed = ap (λ (l : Lent). l.factor_rows) h;
}

module _ {n : ℕ} {plan : Plan} (fit : Fit n plan) where
  pub length-columns : length (columns_in plan.steps) ≡ n
  length-columns = length-map plan.steps (λ x. x.0) ∙ fit.all-steps

  pub length-pops : length (pops_in plan.steps) ≡ n
  length-pops = length-map plan.steps (λ x. x.1) ∙ fit.all-steps

  pub length-begins : length (starts_counted_from 0 plan.lists) ≡ n + 1
  length-begins = length-starts 0 plan.lists ∙ ap (λ m. m + 1) fit.all-lists

  -- the last start is the number of rows
  pub last-begin : start (starts_counted_from 0 plan.lists) (suc n) ≡ length (flat plan.lists)
  last-begin = rw fit.all-lists at (laid-starts plan.lists).last

  module _ {before : Lent} {order pops starts rows : List ℕ} (stored : InSlices plan before order pops starts rows) where
    last-is : get_or starts n 0 ≡ length (flat plan.lists)
    unfolding then_zeros
    last-is =
        rw (stored.begins, get_or-append (starts_counted_from 0 plan.lists) _ 0 n (omega (arith, length-begins)))
        (sym (start-at (starts_counted_from 0 plan.lists) n) ∙ last-begin)

    -- a slice keeps its length, and its first part is the list that it holds
    pub parts-stored : n ≤ length before.order → n ≤ length before.pops → n + 1 ≤ length before.factor_starts
        → length (flat plan.lists) ≤ length before.factor_rows
        → Parts n plan order pops starts rows
    parts-stored o p s r = record {
      order-long = omega (
        arith,
        ap length stored.columns,
        length-then-zeros (columns_in plan.steps) before.order (omega (arith, length-columns)),
      );
      pops-long = omega (arith, ap length stored.popped, length-then-zeros (pops_in plan.steps) before.pops (omega (arith, length-pops)));
      starts-long = omega (
        arith,
        ap length stored.begins,
        length-then-zeros (starts_counted_from 0 plan.lists) before.factor_starts
            (omega (arith, length-begins)),
      );
      rows_long = omega (arith, last-is, ap length stored.listed, length-then-zeros (flat plan.lists) before.factor_rows r);
      columns = rw stored.columns (take-then-zeros _ _ length-columns);
      popped = rw stored.popped (take-then-zeros _ _ length-pops);
      begins = rw stored.begins (take-then-zeros _ _ length-begins);
      listed = rw (last-is, stored.listed) (take-then-zeros _ _ refl);
    }
