-- Defines what is needed of subtrees done alone: their steps, the arranged children, and the room of children done in turn.
-- Assumes nothing.
use Rattle.std.specs.Prelude.{ℕ, ◌+◌, ◌<◌, max, List, [], ◌∷◌}
use Rattle.papers.specs.Lists.{◌∈◌, sort}
use Rattle.papers.specs.Job.{Pattern}
use Rattle.papers.specs.Tree.{t, row_count}
use Rattle.papers.specs.Order.{sibling_key_of, steps_of, children_of, W}

-- children are lower columns, and each leaves an update; 0 is no column
pub record Kin (size : ℕ → ℕ) (kids : ℕ → List ℕ) : Type 0 where
  pub lower : (j c : ℕ) → 0 < j → c ∈ kids j → (0 < c) × (c < j)
  pub update : (j c : ℕ) → 0 < j → c ∈ kids j → 0 < size c

-- the room of siblings done one after the other with h entries held before the first: each needs its own above what is held then
unfoldable pub in_turn : (ℕ → ℕ) → (ℕ → ℕ) → ℕ → List ℕ → ℕ
in_turn size need h [] = 0
in_turn size need h (c ∷ cs) = max (h + need c) (in_turn size need (h + t (size c)) cs)

-- the entries of all the siblings' updates except the last one's
unfoldable pub update_but_last : (ℕ → ℕ) → List ℕ → ℕ
update_but_last size [] = 0
update_but_last size (c ∷ []) = 0
update_but_last size (c ∷ d ∷ cs) = t (size c) + update_but_last size (d ∷ cs)

-- ---- of a pattern of n columns

-- the steps of j's subtree
unfoldable pub subtree_steps : ℕ → ℕ → Pattern → ℕ → List ℕ
subtree_steps mark n A j = steps_of mark (row_count A) (children_of n A) n j

-- the children of j in the mark's order
unfoldable pub siblings_of : ℕ → ℕ → Pattern → ℕ → List ℕ
siblings_of mark n A j = sort (λ c. sibling_key_of mark (row_count A j) (row_count A c) (W mark n A c)) (children_of n A j)
