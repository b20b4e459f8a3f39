-- Defines the entries of the updates that are held after several steps.
-- Assumes nothing.
use Rattle.std.specs.Prelude.{ℕ, ◌≤◌, List, [], ◌∷◌, length}
use Rattle.papers.specs.Room.{entries_after}

module _ (size pops : ℕ → ℕ) where
  -- the entries of each update held after the steps, the top one first
  unfoldable pub entries_after_all : List ℕ → List ℕ → List ℕ
  entries_after_all entries [] = entries
  entries_after_all entries (j ∷ js) = entries_after_all (entries_after (pops j) (size j) entries) js

  -- no step pops more updates than are held
  abbrev pub Enough : List ℕ → List ℕ → Type 0
  Enough entries [] = Unit {0}
  Enough entries (j ∷ js) = (pops j ≤ length entries) × Enough (entries_after (pops j) (size j) entries) js
