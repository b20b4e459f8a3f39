-- Defines what the tests of a step require.
-- Assumes nothing.
use Rattle.std.specs.Prelude.{ℕ, ◌<◌, List, length}
use Rattle.column_laws.specs.Tested.{Tested}
use Rattle.run_held.specs.declared.Held.{Held}
use Rattle.run_updates.specs.Kept.{Kept}

-- the lists hold the step after `done` steps, and the stack list and the record keep the updates
pub record StepGiven (n : ℕ) (starts rows columns pops stack : List ℕ) (held : Held) (done : ℕ) : Type 0 where
  pub tested : Tested n starts rows
  pub kept : Kept n starts rows stack held
  pub column-listed : done < length columns
  pub pops-listed : done < length pops
