-- Defines what taking a step requires, and what it leaves.
-- Assumes nothing.
use Rattle.std.specs.Prelude.{ℕ, suc, ◌+◌, ◌<◌, ◌≤◌, ◌≡◌, List, [], length, get_or}
use Rattle.papers.specs.Run.{stepped}
use Rattle.column_laws.specs.Tested.{Tested}
use Rattle.run_held.specs.declared.Held.{Held}
use Rattle.run_front.specs.Column.{Column}
use Rattle.run_updates.specs.Kept.{run_of, state_of, Kept}

-- the step after `done` steps can be taken: the lists hold it, its column exists, it pops no more than is held, and its update has a place
pub record Ready (n : ℕ) (starts rows columns pops stack : List ℕ) (held : Held) (done : ℕ) : Type 0 where
  pub tested : Tested n starts rows
  pub kept : Kept n starts rows stack held
  pub column-listed : done < length columns
  pub pops-listed : done < length pops
  pub column : Column n (get_or columns done 0)
  pub enough : get_or pops done 0 ≤ held.count
  pub free : held.count < n

-- the step is taken: the list and the record hold the next state, with at most one update more
pub record StepTaken (n : ℕ) (starts rows columns pops stack : List ℕ) (held : Held) (done : ℕ) (stack' : List ℕ) (held' : Held) : Type 0 where
  pub kept : Kept n starts rows stack' held'
  pub grows : held'.count ≤ held.count + 1
  pub state : state_of held' stack' ≡ stepped (run_of n starts rows columns pops 0 []) (suc done) (state_of held stack)
