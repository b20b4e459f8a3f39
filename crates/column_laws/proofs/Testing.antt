-- Proves that the lists of a job that passes its tests are tested lists.
-- Assumes nothing.
use Rattle.papers.specs.Job.{Job}
use Rattle.job_laws.specs.Passed.{Passed}
use Rattle.job_laws.proofs.Passed.{lists-iff}
use Rattle.column_laws.specs.Tested.{Tested}

pub tested : (job : Job) → Passed job → Tested job.n job.starts job.rows
tested job p =
    let lists = (lists-iff job.n job.starts job.rows).1 p.lists in
    record { few = p.few; starts-pass = lists.0; rows_pass = lists.1 }
