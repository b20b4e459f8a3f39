-- Defines the outcome of storing bytes in a lent slice.
-- Assumes nothing.
use Rattle.std.specs.Prelude.{ℕ, List, [], ◌∷◌, length}
use Rattle.papers.specs.Lists.{zeros, then_zeros}
use Rattle.papers.specs.Refusals.{answer, Outcome, outcome}
use Rattle.papers.specs.Analysis.{bytes_short}

-- answers 10 if the bytes do not fit; else stores them, then zeros, and counts them
unfoldable pub stored : List ℕ → List ℕ → Outcome (List ℕ)
stored written bytes =
    outcome [] (bytes_short (λ lent. written) (λ lent. lent) ∷ [])
    (λ lent. record { answered = answer 0 0 (length written); lent = then_zeros written lent }) zeros bytes bytes
