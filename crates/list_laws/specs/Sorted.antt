-- Defines what it means that numbers go by descending key, of equal keys the lower number first.
-- Assumes nothing.
use Rattle.std.specs.Prelude.{ℕ, ◌<◌, ◌≡◌, ◌⊎◌, List, [], ◌∷◌}
use Rattle.papers.specs.Lists.{◌∈◌}

module _ (key : ℕ → ℕ) where
  -- x comes before y: its key is greater, or the same and its number lower
  abbrev pub Before : ℕ → ℕ → Type 0
  Before x y = (key y < key x) ⊎ ((key x ≡ key y) × (x < y))

  -- each number comes before all behind it
  abbrev pub Sorted : List ℕ → Type 0
  Sorted [] = Unit {0}
  Sorted (x ∷ l) = ((y : ℕ) → y ∈ l → Before x y) × Sorted l
