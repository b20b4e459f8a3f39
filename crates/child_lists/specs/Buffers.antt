-- Defines two buffers that take turns: one of them holds a list, and a join is written into the other.
-- Assumes nothing.
use Rattle.std.specs.Prelude.{ℕ, zero, suc, ◌≤◌, ◌≡◌, List, length, take}
use Rattle.papers.specs.Lists.{merge}

-- the buffer that is next in turn
unfoldable pub buffer : ℕ → List ℕ → List ℕ → List ℕ
buffer zero x y = x
buffer (suc turn) x y = y

-- the list in it: its first len numbers
abbrev pub list_in_turn : ℕ → ℕ → List ℕ → List ℕ → List ℕ
list_in_turn turn len x y = take len (buffer turn x y)

-- these numbers are the list l
pub record Holds (turn len : ℕ) (x y l : List ℕ) : Type 0 where
  pub count : len ≡ length l
  pub list : list_in_turn turn len x y ≡ l

-- each buffer has room for that list and for more rows joined to it
pub record Roomy (turn len : ℕ) (more x y : List ℕ) : Type 0 where
  pub list-x : len ≤ length x
  pub list-y : len ≤ length y
  pub joined-x : length (merge (list_in_turn turn len x y) more) ≤ length x
  pub joined-y : length (merge (list_in_turn turn len x y) more) ≤ length y
