-- Defines how the lent stack list and the record hold the updates of a run.
-- Assumes nothing.
use Rattle.std.specs.Prelude.{ℕ, zero, suc, ◌<◌, ◌≤◌, ◌≡◌, List, [], ◌∷◌, length, get_or}
use Rattle.papers.specs.Lists.{sum}
use Rattle.papers.specs.Run.{RunCall, State, entries}
use Rattle.column_laws.specs.Tested.{Tested}
use Rattle.run_held.specs.declared.Held.{Held}
use Rattle.run_front.specs.Column.{Column}

-- the columns held, top first; the stack list holds them bottom first
unfoldable pub held_in_order : ℕ → List ℕ → List ℕ
held_in_order zero stack = []
held_in_order (suc k) stack = get_or stack k 0 ∷ held_in_order k stack

-- the state of a run that the record and the stack list hold
abbrev pub state_of : Held → List ℕ → State
state_of held stack = record { held = held_in_order held.count stack; greatest = held.greatest }

-- the call of a run
abbrev pub run_of : ℕ → List ℕ → List ℕ → List ℕ → List ℕ → ℕ → List ℕ → RunCall
run_of n starts rows columns pops room stack =
    record { n = n; starts = starts; rows = rows; columns = columns; pops = pops; room = room; stack = stack }

-- the call without steps, for what depends on the factor alone
abbrev pub factor_of : ℕ → List ℕ → List ℕ → RunCall
factor_of n starts rows = run_of n starts rows [] [] 0 []

-- the first k numbers of the stack list are columns of 1 to n
abbrev pub AllColumns : ℕ → ℕ → List ℕ → Type 0
AllColumns n k stack = (i : ℕ) → i < k → Column n (get_or stack i 0)

-- the stack list holds columns of 1 to n, at most n of them, and the record counts the entries of their updates
pub record Kept (n : ℕ) (starts rows stack : List ℕ) (held : Held) : Type 0 where
  pub few : held.count ≤ n
  pub listed : n ≤ length stack
  pub columns : AllColumns n held.count stack
  pub entries-are : held.entries ≡ sum (entries (factor_of n starts rows) (held_in_order held.count stack))

-- ---- what the functions require

-- the step pops no more updates than are held
pub record PopsHeld (n : ℕ) (starts rows stack : List ℕ) (held : Held) (pops : ℕ) : Type 0 where
  pub tested : Tested n starts rows
  pub kept : Kept n starts rows stack held
  pub enough : pops ≤ held.count

-- a column's front over the updates held, of which the step pops so many
pub record FrontOver (n : ℕ) (starts rows stack : List ℕ) (held : Held) (pops c : ℕ) : Type 0 where
  pub tested : Tested n starts rows
  pub kept : Kept n starts rows stack held
  pub enough : pops ≤ held.count
  pub column : Column n c
