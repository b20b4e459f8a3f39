-- Defines blocks of steps: the steps of a column's subtree, which takes the children in the order of their lists.
-- Assumes nothing.
use Rattle.std.specs.Prelude.{ℕ, ◌+◌, get_or}
use mathlib.Core.List.{List, flat_map}
use Rattle.std.proofs.Math.Seq.{slice}
use Rattle.papers.specs.Order.{steps_of}

-- the steps of column j's subtree, children in the order of their lists, which mark 0 keeps; a depth of j is enough, and 0 has no step
unfoldable pub block_of : (ℕ → List ℕ) → ℕ → List ℕ
block_of kids j = steps_of 0 (λ c. 0) kids j j

-- the steps of siblings' subtrees, one after the other
unfoldable pub blocks : (ℕ → List ℕ) → List ℕ → List ℕ
blocks kids cs = flat_map (block_of kids) cs

-- the children of j if all lists follow one another, each from its start to the next one's; those of 0 are the roots
unfoldable pub kids_at : List ℕ → List ℕ → ℕ → List ℕ
kids_at starts list j = slice (get_or starts j 0) (get_or starts (j + 1) 0) list
