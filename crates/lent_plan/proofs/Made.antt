-- Proves that the answer alone decides the outcome of a refused analysis, since a refusal leaves zeros; so clearing the slices makes that outcome.
-- Assumes nothing.
use mathlib.Core.Path.{◌≡◌}
use mathlib.Core.Logic.{◌≢◌}
use Rattle.papers.specs.declared.Answer.{Answer}
use Rattle.papers.specs.Refusals.{Outcome}
use Rattle.papers.specs.Job.{Job}
use Rattle.papers.specs.Analysis.{Lent, all_zero, analysed}
use Rattle.lent.proofs.Alike.{Alike, zeros-alike}
use Rattle.lent_plan.specs.Made.{Made}

-- a refusal, whatever it leaves
pub made-refused : {job : Job} {before lent : Lent} {r : Answer} → r.number ≢ 0
    → ◌≡◌ {A = Outcome Lent} (record { answered = r; lent = all_zero before }) (analysed job before)
    → Made job before lent r
made-refused z e = record { done = λ q. absurd (z q); refused = λ q. e }

-- the slices are cleared after it
pub made-cleared : {job : Job} {before lent after : Lent} {r : Answer} → Made job before lent r → Alike before lent → r.number ≢ 0
    → after ≡ all_zero lent
    → ◌≡◌ {A = Outcome Lent} (record { answered = r; lent = after }) (analysed job before)
made-cleared {before = before} {lent} m a z e = rw (zeros-alike before lent a e) (m.refused z)
