-- Proves that a sound plan runs in its declared peak: its lists are R(j), its order has whole subtrees, and its pops are the numbers of
-- children.
-- Assumes nothing.
use Prim.Native.Nat.{ℕ, ◌<◌, ◌≤◌}
use mathlib.Core.Path.{ap}
use mathlib.Core.List.{List}
use lib.ListN.{length}
use Rattle.papers.specs.Lists.{flat, starts_counted_from}
use Rattle.papers.specs.Job.{Job, pattern}
use Rattle.papers.specs.Plan.{Plan, Sound}
use Rattle.job_laws.specs.Passed.{Passed}
use Rattle.job_laws.proofs.Passed.{passed-below}
use Rattle.run_laws.specs.Runs.{plan_run, Runs, LacksRoom}
use Rattle.run_laws.specs.Follows.{Follows}
use Rattle.run_laws.proofs.Completes.{follows-runs, less-refused}

module _ (job : Job) (plan : Plan) (valid : Passed job) (sound : Sound job plan) (room : ℕ) (stack : List ℕ)
    (long : job.n ≤ length stack) where
  follows : Follows (pattern job) (plan_run job.n plan room stack)
  follows =
      let p = valid in
      record {
        few = p.few;
        below = passed-below job p;
        starts = ap (starts_counted_from 0) sound.rows;
        rows = ap flat sound.rows;
        ordered = sound.ordered;
        pops = sound.pops;
        long = long;
      }

  -- a sound plan of a valid job runs, with a room of its declared peak or more
  pub sound-plan-runs : plan.peak ≤ room → Runs (pattern job) plan.peak (plan_run job.n plan room stack)
  sound-plan-runs h = rw sound.declared (follows-runs follows (rw (← sound.declared) h))

  -- with less room than the peak it is refused with 23
  pub less-room-refused : room < plan.peak → LacksRoom (plan_run job.n plan room stack)
  less-room-refused h = less-refused follows (rw (← sound.declared) h)
