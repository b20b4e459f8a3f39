-- Defines a slice that is cleared from a place on.
-- Assumes nothing.
use Rattle.std.specs.Prelude.{ℕ, List, ◌++◌, take, drop}
use Rattle.papers.specs.Lists.{zeros}

-- keeps the first k numbers, then zeros
unfoldable pub zeros_from : ℕ → List ℕ → List ℕ
zeros_from k l = take k l ++ zeros (drop k l)
