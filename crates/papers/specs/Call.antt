-- Defines what the solver's call answers: when it refuses a key (27, 26), and its check of the plan.
-- Assumes nothing.
use Rattle.std.specs.Prelude.{ℕ, ◌+◌, ◌*◌, ◌^◌, ◌<◌, ◌≡◌, ◌⊎◌, ◌||◌, List, [], ◌∷◌, ◌++◌, ltb, length}
use Rattle.papers.specs.Bounds.{program_columns, program_rows}
use Rattle.papers.specs.Refusals.{answer, Verdict, passed, refused, refused_if, Refusal, first, Answered, Unrefused}
use Rattle.papers.specs.Job.{Job}
use Rattle.papers.specs.Numbers.{got, bad}
use Rattle.papers.specs.Key.{key_read_from, Readable}
use Rattle.papers.specs.Check.{CheckCall, check_early, check_late, checked}
use Rattle.papers.specs.Text.{buffers}
use Rattle.papers.specs.declared.Answer.{Answer}

-- the input of the call: key bytes and plan bytes
pub record SolverCall : Type 0 where
  pub key : List ℕ
  pub plan : List ℕ

-- finds 27: whether the key is read
unfoldable pub readable_test : SolverCall → Verdict
readable_test call = elim (key_read_from call.key) [ got job at ↦ passed | bad number place ↦ refused (answer 27 0 0) ]

-- 27: the key is not readable
abbrev pub unreadable : Refusal SolverCall
unreadable = record { test = readable_test; gives = λ call a. (¬ Readable call.key) × (a ≡ answer 27 0 0) }

-- finds 26: whether the key's job is over the program's sizes
unfoldable pub sizes_test : SolverCall → Verdict
sizes_test call =
    elim (key_read_from call.key) [
      | got job at ↦ refused_if (ltb program_columns job.n || ltb program_rows (length job.rows)) (answer 26 0 0)
      | bad number place ↦ passed
    ]

-- 26: the key is readable, but its job is over the program's sizes
abbrev pub sizes_over : Refusal SolverCall
sizes_over = record {
  test = sizes_test;
  gives = λ call a.
      (r : Readable call.key) × ((program_columns < r.job.n) ⊎ (program_rows < length r.job.rows)) × (a ≡ answer 26 0 0);
}

-- the refusals of the call itself: 27, then 26
unfoldable pub call_refusals : List (Refusal SolverCall)
call_refusals = unreadable ∷ sizes_over ∷ []

-- the check of the plan for a job, in the program's buffers
abbrev pub solver_check : SolverCall → Job → CheckCall
solver_check call job = record { job = job; plan = call.plan; lent = buffers }

-- where neither refuses, the check of the plan for the key's job, in the program's buffers; a key that is not read has been refused with 27
unfoldable pub key_checked : SolverCall → Answer
key_checked call = elim (key_read_from call.key) [ got job at ↦ (checked job call.plan buffers).answered | bad number place ↦ answer 27 0 0 ]

-- number, place and count that the call finds
unfoldable pub solver_answer : SolverCall → Answer
solver_answer call = elim (first call_refusals call) [ passed ↦ key_checked call | refused a ↦ a ]

-- a is the refusal of the call: 27, 26, or the check for the key's job gives it
abbrev pub SolverRefused : SolverCall → Answer → Type 0
SolverRefused call a =
    Answered call_refusals call a
    ⊎ (Unrefused call_refusals call × ((r : Readable call.key) × Answered (check_early ++ check_late) (solver_check call r.job) a))

-- the one number that the call answers: number · 2^32 + place
unfoldable pub called : List ℕ → List ℕ → ℕ
called key plan = let a = solver_answer (record { key = key; plan = plan }) in a.number * 2 ^ 32 + a.place
