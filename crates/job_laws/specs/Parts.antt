-- Defines when lent slices hold a plan, and which parts of them hold it.
-- Assumes nothing.
use Rattle.std.specs.Prelude.{ℕ, ◌+◌, ◌≤◌, ◌≡◌, List, length, get_or, take}
use Rattle.papers.specs.Lists.{flat, starts_counted_from, then_zeros}
use Rattle.papers.specs.Plan.{Plan, columns_in, pops_in}
use Rattle.papers.specs.Analysis.{Lent}

-- the slices hold the plan, then zeros
pub record InSlices (plan : Plan) (before : Lent) (order pops starts rows : List ℕ) : Type 0 where
  pub columns : order ≡ then_zeros (columns_in plan.steps) before.order
  pub popped : pops ≡ then_zeros (pops_in plan.steps) before.pops
  pub begins : starts ≡ then_zeros (starts_counted_from 0 plan.lists) before.factor_starts
  pub listed : rows ≡ then_zeros (flat plan.lists) before.factor_rows

-- the slices are long enough for a plan of n columns, and these parts of them are its steps and lists; the last start says how many rows
-- there are
pub record Parts (n : ℕ) (plan : Plan) (order pops starts rows : List ℕ) : Type 0 where
  pub order-long : n ≤ length order
  pub pops-long : n ≤ length pops
  pub starts-long : n + 1 ≤ length starts
  pub rows_long : get_or starts n 0 ≤ length rows
  pub columns : take n order ≡ columns_in plan.steps
  pub popped : take n pops ≡ pops_in plan.steps
  pub begins : take (n + 1) starts ≡ starts_counted_from 0 plan.lists
  pub listed : take (get_or starts n 0) rows ≡ flat plan.lists
