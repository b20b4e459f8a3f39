-- Defines how the rows of all lists are counted by rows instead of by columns.
-- Assumes nothing.
use Rattle.std.specs.Prelude.{ℕ, zero, suc, ◌+◌, true, false, List, [], ◌∷◌, ltb, eqb}

-- g 1 + .. + g n
unfoldable pub sum_to : ℕ → (ℕ → ℕ) → ℕ
sum_to zero g = 0
sum_to (suc n) g = sum_to n g + g (suc n)

-- counts the numbers of a list that are below i
unfoldable pub count_below : ℕ → List ℕ → ℕ
count_below i [] = 0
count_below i (x ∷ xs) = elim (ltb x i) [ true ↦ suc (count_below i xs) | false ↦ count_below i xs ]

-- 1 if a is b, else 0
unfoldable pub hit : ℕ → ℕ → ℕ
hit a b = elim (eqb a b) [ true ↦ 1 | false ↦ 0 ]
