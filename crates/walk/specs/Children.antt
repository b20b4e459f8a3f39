-- Defines what is read of a child, and what the siblings' task hands back. A block is a column, the count of its subtree's columns, and its first
-- step.
-- Assumes nothing.
use Rattle.std.specs.Prelude.{ℕ, ◌+◌, ◌^◌, ◌<◌, ◌≤◌, ◌≡◌, List, length, get_or}
use Rattle.std.proofs.lemmas.List.Edits.{sets}
use Rattle.walk.specs.Tasks.{Task, own_steps, kids_steps}

-- the lists have a child at place i, and its descendants are counted
pub record ChildListed (list counts : List ℕ) (i : ℕ) : Type 0 where
  pub inside : i < length list
  pub known : get_or list i 0 < length counts
  pub small : get_or counts (get_or list i 0) 0 + 1 < 2 ^ 64

-- the block of that child, which begins at step `at`
pub record ChildBlock (list counts : List ℕ) (i at column size first : ℕ) : Type 0 where
  pub child : column ≡ get_or list i 0
  pub counted : size ≡ get_or counts (get_or list i 0) 0 + 1
  pub begins : first ≡ at

-- a child's block is handed back: it is within j's steps, and once its steps are written, those of all children are
pub record BlockHanded (starts list counts : List ℕ) (j left : ℕ) (order₀ : List ℕ) (at : ℕ) (order : List ℕ) (column size first : ℕ) : Type 0 where
  pub asks : Task starts list counts column size first (at + left) (own_steps starts list column)
  pub within : (at ≤ first) × (0 < j → column < j)
  pub writes : sets order first (own_steps starts list column) ≡ sets order₀ at (kids_steps starts list j)
