-- What the listing program prints, by the verdict on its text and by the answer of its analysis.
-- Assumes nothing.
use Prim.Native.Nat.{ℕ, zero, suc, ◌<◌}
use mathlib.Core.Path.{◌≡◌, refl}
use native.Mathlib.Omega.{arith}
use Rattle.papers.specs.declared.Answer.{Answer}
use Rattle.papers.specs.Refusals.{answer, passed, refused, first}
use Rattle.papers.specs.Job.{Job}
use Rattle.papers.specs.Analysis.{analysed}
use Rattle.papers.specs.Text.{Input, text_job, text_refusals, refusal_line, buffers, job_printed, program_prints}

-- a refusal prints its line
pub refusal-printed : (job : Job) (a : Answer) → 0 < a.number → job_printed job a ≡ refusal_line a
unfolding job_printed
refusal-printed job a h = go a.number refl
  where
    go : (m : ℕ) → a.number ≡ m → job_printed job a ≡ refusal_line a
    go zero e = absurd (omega arith)
    go (suc m) e = let q : a ≡ answer (suc m) a.place a.count = λ i. record { number = e i; place = a.place; count = a.count } in rw q

module _ (input : Input) where
  pub text-refused : {a : Answer} → first text_refusals input ≡ refused a → program_prints input ≡ refusal_line a
  unfolding program_prints
  text-refused e = rw (e, program_prints)

  pub text-passed : first text_refusals input ≡ passed
      → program_prints input ≡ job_printed (text_job input.text) (analysed (text_job input.text) buffers).answered
  unfolding program_prints
  text-passed e = rw (e, program_prints)
