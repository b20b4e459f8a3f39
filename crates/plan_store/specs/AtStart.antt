-- Defines that the first places of an analysis's slices hold the plan of its job.
-- Assumes nothing.
use Rattle.std.specs.Prelude.{ℕ, ◌+◌, ◌≤◌, ◌≡◌, List, length, get_or, take}
use Rattle.papers.specs.Job.{Job}
use Rattle.papers.specs.Plan.{plan_of}
use Rattle.write_plan.specs.Lists.{plan_in, Writable}

-- the first places of the slices, as many as n columns need, can be written and are the plan of the job; the last start tells how many
-- rows there are
pub record JobPlanAtStart (job : Job) (order pops starts rows : List ℕ) (peak : ℕ) : Type 0 where
  pub order-long : job.n ≤ length order
  pub pops-long : job.n ≤ length pops
  pub starts-long : job.n + 1 ≤ length starts
  pub rows_long : get_or starts job.n 0 ≤ length rows
  pub writable : Writable job (take job.n order) (take job.n pops) (take (job.n + 1) starts) (take (get_or starts job.n 0) rows) peak
  pub planned : plan_in job.n (take job.n order) (take job.n pops) (take (job.n + 1) starts) (take (get_or starts job.n 0) rows) peak ≡
      plan_of job
