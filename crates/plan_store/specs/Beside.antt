-- Defines the outcome of storing bytes beside the slices of an analysis.
-- Assumes nothing.
use Rattle.std.specs.Prelude.{ℕ, List, [], ◌∷◌, length}
use Rattle.papers.specs.Lists.{then_zeros}
use Rattle.papers.specs.Refusals.{answer, Outcome, outcome}
use Rattle.papers.specs.Analysis.{PlanLent, plan_zero, bytes_short}

-- answers 10 if the bytes do not fit, and clears all slices; else stores them, then zeros, and keeps the other slices
unfoldable pub stored_beside : List ℕ → PlanLent → Outcome PlanLent
stored_beside written slices =
    outcome [] (bytes_short (λ lent. written) (λ lent. lent.bytes) ∷ [])
    (λ lent. record { answered = answer 0 0 (length written); lent = record { analysis = lent.analysis; bytes = then_zeros written lent.bytes } })
    plan_zero slices slices
