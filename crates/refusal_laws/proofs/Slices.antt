-- Proves that the test of lent slices (7) agrees with its condition: some slice is below its fixed length.
-- Assumes nothing.
use mathlib.Core.Path.{◌≡◌, refl}
use mathlib.Core.Logic.{◌↔◌}
use mathlib.Core.Bool.{true}
use mathlib.Core.List.{List, [], ◌∷◌}
use native.Mathlib.Omega.{arith}
use Rattle.papers.specs.Analysis.{Fixed, some_short, TooShort, slice_short}
use Rattle.list_laws.proofs.Tests.{true-false}
use Rattle.refusal_laws.proofs.Agreements.{Agree}
use Rattle.refusal_laws.proofs.Tests.{below-iff, either-iff, agree-if}

short-iff : (slices : List Fixed) → (some_short slices ≡ true) ↔ TooShort slices
unfolding some_short
short-iff [] = (λ e. true-false e refl, λ x. absurd x)
short-iff (x ∷ xs) = either-iff _ _ (below-iff x.long x.least) (short-iff xs)

-- the test of 7 agrees with its condition
pub slices-agree : (slices : List Fixed) → Agree (slice_short.test slices) (slice_short.gives slices)
slices-agree slices = agree-if _ _ (omega arith) (short-iff slices)
