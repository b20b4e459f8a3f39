-- Defines which job the rules mean by a job that code hands on.
-- Assumes nothing.
use Rattle.papers.specs.Job as rules
use Rattle.job.specs.declared.Job.{Job}

abbrev pub job_given : Job → rules.Job
job_given job = rules.job_of job.head job.starts.now job.rows.now
