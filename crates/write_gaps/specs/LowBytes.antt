-- Defines the low bytes of some numbers.
-- Assumes nothing.
use Rattle.std.specs.Prelude.{ℕ, ◌%◌, ◌≡◌, List, [], ◌∷◌}
use Rattle.std.proofs.lemmas.List.Edits.{sets}
use Rattle.papers.specs.Lists.{largest}

unfoldable pub low_bytes : List ℕ → List ℕ
low_bytes [] = []
low_bytes (x ∷ xs) = (x % 256) ∷ low_bytes xs

-- the low bytes of the gaps are stored from `at` on, and r is the greatest gap
pub record LowsStored (gaps before after : List ℕ) (at r : ℕ) : Type 0 where
  pub widest : r ≡ largest gaps
  pub stores : after ≡ sets before at (low_bytes gaps)
