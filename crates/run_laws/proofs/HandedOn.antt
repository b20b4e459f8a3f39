-- Proves that the lists of an analysis or a check, handed on without the zeros behind them, are the plan's own lists.
-- Assumes nothing.
use Prim.Native.Nat.{ℕ}
use mathlib.Core.Path.{◌≡◌, refl}
use mathlib.Core.List.{List}
use Rattle.papers.specs.Lists.{flat, starts_counted_from}
use Rattle.papers.specs.Job.{Job}
use Rattle.papers.specs.Plan.{Plan, columns_in, pops_in, Fit}
use Rattle.papers.specs.Analysis.{Lent, holding_plan}
use Rattle.papers.specs.Run.{handed_on_call}
use Rattle.list_laws.proofs.Stores.{take-then-zeros}
use Rattle.job_laws.proofs.Parts.{length-columns, length-pops, length-begins, last-begin}
use Rattle.run_laws.specs.Runs.{plan_run}

-- a run of the lists handed on is a run of the plan's own lists
pub handed-on : (job : Job) (plan : Plan) (lent : Lent) (room : ℕ) (stack : List ℕ) → Fit job.n plan
    → handed_on_call job.n (holding_plan job plan lent) room stack ≡ plan_run job.n plan room stack
unfolding handed_on_call holding_plan
handed-on job plan lent room stack fit =
    rw (
      take-then-zeros (starts_counted_from 0 plan.lists) lent.factor_starts (length-begins fit),
      last-begin fit,
      take-then-zeros (flat plan.lists) lent.factor_rows refl,
      take-then-zeros (columns_in plan.steps) lent.order (length-columns fit),
      take-then-zeros (pops_in plan.steps) lent.pops (length-pops fit),
    )
