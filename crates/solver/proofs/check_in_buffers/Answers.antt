-- Proves that `check_in_buffers` answers as a check in the program's buffers: the lent slices are zero and have the program's sizes, so they are
-- these buffers.
-- Assumes nothing.
use Prim.Native.Nat.{ℕ}
use mathlib.Core.Path.{◌≡◌, ap}
use mathlib.Core.List.{List}
use Rattle.papers.specs.declared.Answer.{Answer}
use Rattle.papers.specs.Refusals.{Outcome}
use Rattle.papers.specs.Job.{Job}
use Rattle.papers.specs.Analysis.{Lent}
use Rattle.papers.specs.Check.{checked}
use Rattle.papers.specs.Text.{buffers}
use Rattle.lent.specs.Six.{zeroes}
use Rattle.solver.proofs.check_in_buffers.Goals as goal

-- the check in zeroed slices of the program's sizes is that in its buffers
in-buffers : (job : Job) (plan : List ℕ) {a : Answer} {lent : Lent} → record { answered = a; lent = lent }
    ≡ checked job plan zeroes → a ≡ (checked job plan buffers).answered
unfolding buffers
in-buffers job plan e = ap (λ (o : Outcome Lent). o.answered) e

pub returns : goal.returns
returns c = in-buffers _ _ c.check_plan.ensures
