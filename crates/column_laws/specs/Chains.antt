-- Defines lists of columns by links in a region of work.
-- Assumes nothing.
use Rattle.std.specs.Prelude.{ℕ, ◌+◌, ◌<◌, ◌≤◌, ◌≡◌, List, [], ◌∷◌, get_or}

-- the chain from c on lists the columns l: work holds the column behind x at o + x, and 0 ends the list
abbrev pub Chain : List ℕ → ℕ → ℕ → List ℕ → Type 0
Chain work o c [] = c ≡ 0
Chain work o c (x ∷ xs) = (c ≡ x) × ((1 ≤ x) × Chain work o (get_or work (o + x) 0) xs)

-- the list descends, and each number is below b
abbrev pub Desc : ℕ → List ℕ → Type 0
Desc b [] = Unit {0}
Desc b (x ∷ xs) = (x < b) × Desc x xs
