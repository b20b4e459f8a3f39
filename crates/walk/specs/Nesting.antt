-- Defines how deep the calls of the two tasks nest, by the recursion over the tree that the tasks themselves follow.
-- Assumes nothing.
use Rattle.std.specs.Prelude.{ℕ, zero, suc, ◌+◌, max, true, false, List, [], ◌∷◌, leb, length}
use Rattle.tree.specs.Blocks.{block_of}

-- the child that the siblings' task hands back, if it keeps one and the others are to come
unfoldable pub handed : (ℕ → List ℕ) → ℕ → List ℕ → ℕ
handed kids kept [] = kept
handed kids kept (c ∷ cs) = elim (leb (length (block_of kids c)) (length (block_of kids kept))) [ true ↦ handed kids kept cs | false ↦ handed kids c cs ]

-- how deep calls nest below the siblings' task, if nests says so for a column's task: the smaller of two children is done by a call
unfoldable pub nest_kids : (ℕ → List ℕ) → (ℕ → ℕ) → ℕ → List ℕ → ℕ
nest_kids kids nests kept [] = 0
nest_kids kids nests kept (c ∷ cs) =
    elim (leb (length (block_of kids c)) (length (block_of kids kept))) [
      | true ↦ max (1 + nests c) (nest_kids kids nests kept cs)
      | false ↦ max (1 + nests kept) (nest_kids kids nests c cs)
    ]

-- how deep calls nest below the task of column j: it calls for its children, if it has any, and continues with the child handed back, without
-- a call. A depth of j is enough.
unfoldable pub nest_column : (ℕ → List ℕ) → ℕ → ℕ → ℕ
nest_column kids zero j = 0
nest_column kids (suc f) j =
    elim (kids j) [ [] ↦ 0 | c ∷ cs ↦ max (1 + nest_kids kids (nest_column kids f) c cs) (nest_column kids f (handed kids c cs)) ]

-- how deep calls nest in the walk over all columns, at most f: one call does the roots, then one the root that is handed back
unfoldable pub nest_steps : (ℕ → List ℕ) → ℕ → ℕ
nest_steps kids f =
    elim (kids 0) [ [] ↦ 0 | c ∷ cs ↦ 1 + max (nest_kids kids (nest_column kids f) c cs) (nest_column kids f (handed kids c cs)) ]
