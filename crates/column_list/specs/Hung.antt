-- Defines the children of a column as columns are hung under their parents, one after the other.
-- Assumes nothing.
use Rattle.std.specs.Prelude.{ℕ, zero, suc, true, false, List, [], ◌∷◌, eqb}
use Rattle.papers.specs.Job.{Pattern}
use Rattle.papers.specs.Tree.{parent}

-- the children of j among the columns 1 to m, the last first
unfoldable pub hung : Pattern → ℕ → ℕ → List ℕ
hung A zero j = []
hung A (suc m) j = elim (eqb (parent A (suc m)) j) [ true ↦ suc m ∷ hung A m j | false ↦ hung A m j ]
