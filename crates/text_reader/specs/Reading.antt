-- Defines what is read of a job text, and what is kept of it. Rows are kept narrowed, and a theorem says that this changes no test of the job. After
-- a refusal it promises nothing of the slices.
-- Assumes nothing.
use Rattle.std.specs.Prelude.{ℕ, ◌≡◌, Result, Ok, Err, List, map, length}
use Rattle.std.proofs.lemmas.List.Edits.{sets}
use Rattle.papers.specs.declared.JobHead.{JobHead}
use Rattle.papers.specs.Refusals.{passed, refused, first}
use Rattle.papers.specs.Job.{Job, head_in, job_of}
use Rattle.papers.specs.Text.{Input, text_job, text_refusals}
use Rattle.text_lines.specs.Narrowed.{narrowed}
use Rattle.refusals.specs.declared.Fault.{Fault}
use Rattle.refusals.specs.Answers.{answer_refusing, refused_without_count}

-- the text is not refused: its job has this head and `count` rows, and the first places of the slices keep it
pub record JobKept (input : Input) (starts₀ rows₀ starts rows : List ℕ) (head : JobHead) (count : ℕ) : Type 0 where
  pub passes : first text_refusals input ≡ passed
  pub headed : head ≡ head_in (text_job input.text)
  pub counted : count ≡ length (text_job input.text).rows
  pub started : starts ≡ sets starts₀ 0 (text_job input.text).starts
  pub kept : rows ≡ sets rows₀ 0 (map narrowed (text_job input.text).rows)

-- the text is refused, for this fault
pub record TextRefused (input : Input) (fault : Fault) : Type 0 where
  pub refuses : first text_refusals input ≡ refused (answer_refusing (refused_without_count fault))

-- what is told of the whole text: its job, or its refusal
abbrev pub JobTold : Input → List ℕ → List ℕ → List ℕ → List ℕ → Result (JobHead × ℕ) Fault → Type 0
JobTold input starts₀ rows₀ starts rows (Ok (head, count)) = JobKept input starts₀ rows₀ starts rows head count
JobTold input starts₀ rows₀ starts rows (Err fault) = TextRefused input fault

-- a job with its rows narrowed, as they are kept
abbrev pub kept_job : Job → Job
kept_job job = job_of (head_in job) job.starts (map narrowed job.rows)
