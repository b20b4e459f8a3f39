-- Proves that for a plan whose lists are R, the parents and starts in the slices name the pattern's tree and its rows.
-- Assumes nothing.
use Prim.Native.Nat.{ℕ, ◌≤◌}
use mathlib.Core.Path.{◌≡◌, sym, ap, ◌∙◌}
use mathlib.Core.List.{List}
use native.Mathlib.Omega.{arith}
use lib.ListN.{length}
use Rattle.papers.specs.Bounds.{max_columns}
use Rattle.papers.specs.Lists.{Distinct}
use Rattle.papers.specs.Job.{Job, Below, pattern}
use Rattle.papers.specs.Tree.{parent}
use Rattle.papers.specs.Plan.{Plan, columns_in}
use Rattle.job_laws.proofs.Passed.{passed-below}
use Rattle.plan_laws.proofs.PlanSound.{repeat-iff}
use Rattle.tree.specs.Parents.{parent_in, TreeIn}
use Rattle.order.proofs.Ties.{length-parents, parents-tie, rowed}
use Rattle.check_steps.specs.Steps.{Within}
use Rattle.check_subtrees.specs.Steps.{EachOnce}
use Rattle.check_judge.specs.Judged.{OnTree}
use Rattle.check_judge.proofs.Stored.{order-length, pops_length, in-range, within}

module _ {job : Job} {plan : Plan} {limit claimed : ℕ} {parents order pops fstarts : List ℕ} (on : OnTree job plan limit claimed parents order pops
    fstarts) where
  pub below : Below job.n (pattern job)
  below = passed-below job on.valid

  pub columns-few : job.n ≤ max_columns
  columns-few = on.valid.few

  pub parents-length : length parents ≡ job.n
  parents-length = ap length on.parents-are ∙ length-parents below

  pub same-parents : parent_in parents ≡ parent (pattern job)
  same-parents = rw on.parents-are (λ i j. parents-tie below j i)

  pub tree-in : TreeIn parents
  tree-in = rw on.parents-are (rowed below columns-few).tree

  pub as_long : length order ≡ length parents
  as_long = order-length on.stored ∙ sym parents-length

  pub pops-as-long : length pops ≡ length parents
  pops-as-long = pops_length on.stored ∙ sym parents-length

  pub once : Distinct (columns_in plan.steps)
  once = (repeat-iff job plan on.stored.fit).0 on.unrepeated

  pub each-once : EachOnce (length parents) order
  each-once = record { range = λ j m. rw parents-length (in-range on.stored j m); once = rw on.stored.columns once }

  pub few : length parents ≤ max_columns
  few = omega (arith, parents-length, columns-few)

  pub within-order : Within (length order) order
  within-order = within on.stored
