-- Defines the bytes of a line's numbers, which follow its first word.
-- Assumes nothing.
use Rattle.std.specs.Prelude.{ℕ, List, [], ◌∷◌, ◌++◌}
use Rattle.papers.specs.Text.{space, decimal_of}

-- writes each number behind a space
unfoldable pub numbered : List ℕ → List ℕ
numbered [] = []
numbered (x ∷ xs) = (space ∷ decimal_of x) ++ numbered xs
