-- Defines the columns whose updates are held as the steps of an order are done.
-- Assumes nothing.
use Rattle.std.specs.Prelude.{ℕ, zero, suc, Bool, true, false, not, List, [], ◌∷◌, eqb, drop}
use Rattle.papers.specs.Lists.{member, keep}
use Rattle.papers.specs.Order.{column_at_step}

-- p is a column, and it is not done
unfoldable pub missing : List ℕ → ℕ → Bool
missing done zero = false
missing done (suc p) = not (member (suc p) done)

module _ (par : ℕ → ℕ) where
  -- the columns that are done and whose parent is not; `done` lists the last step first
  unfoldable pub waiting : List ℕ → List ℕ
  waiting done = keep (λ x. missing done (par x)) done

  -- the update of j goes on top; a root leaves none
  unfoldable pub pushed_on : ℕ → List ℕ → List ℕ
  pushed_on j held = elim (eqb (par j) 0) [ true ↦ held | false ↦ j ∷ held ]

  -- the columns whose updates are held after the first s steps, the top one first; each step pops as many as its pops say
  unfoldable pub held_columns : (ℕ → ℕ) → List ℕ → ℕ → List ℕ
  held_columns pops order zero = []
  held_columns pops order (suc s) = let j = column_at_step order (suc s) in pushed_on j (drop (pops j) (held_columns pops order s))
