-- Proves that the check is done exactly when the bytes are those of a sound plan of a valid job and the slices are long enough; then the
-- slices hold that plan.
-- Assumes nothing.
use Prim.Native.Nat.{ℕ}
use mathlib.Core.Path.{◌≡◌, ap, ◌∙◌}
use mathlib.Core.Logic.{◌↔◌}
use mathlib.Core.List.{List}
use Rattle.papers.specs.Refusals.{answer, Outcome}
use Rattle.papers.specs.Job.{Job}
use Rattle.papers.specs.Numbers.{Bytes}
use Rattle.papers.specs.Plan.{Plan}
use Rattle.papers.specs.Analysis.{Lent, holding_plan, all_zero}
use Rattle.papers.specs.Check.{CheckCall, check_done, checked, check_early, check_late}
use Rattle.job_laws.proofs.Outcomes.{outcome-done}
use Rattle.check_laws.proofs.Check.{done-passes}
use Rattle.plan_laws.specs.Passing.{Passing}
use Rattle.plan_laws.proofs.Passing.{passing-read, passing-passes, passes-passing}

module _ (job : Job) (bytes : List ℕ) (lent : Lent) where
  abbrev call : CheckCall
  call = record { job = job; plan = bytes; lent = lent }

  -- if the bytes pass, the place is 0, the count is the plan's peak, and the slices hold the parents and its order, pops and lists, then
  -- zeros
  pub check-holds : (plan : Plan) → Passing job plan bytes lent
      → checked job bytes lent ≡ record { answered = answer 0 0 plan.peak; lent = holding_plan job plan lent }
  unfolding checked check_done
  check-holds plan p =
      let (early, late) = passing-passes call plan p in
      outcome-done check_early check_late check_done all_zero call lent early late ∙ rw (passing-read call plan p, check_done)

  -- the check is done exactly when the bytes pass
  pub check-passes-iff : Bytes bytes → ((checked job bytes lent).answered.number ≡ 0) ↔ ((plan : Plan) × Passing job plan bytes lent)
  check-passes-iff are-bytes = (
    λ done. let (early, late) = done-passes call are-bytes done in passes-passing call are-bytes early late,
    λ (plan, p). ap (λ (o : Outcome Lent). o.answered.number) (check-holds plan p),
  )
