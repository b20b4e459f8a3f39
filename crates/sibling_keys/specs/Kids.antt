-- Defines a column and its children as slices hold them: the keys of the children, and the column's W that the children's W give.
-- Assumes nothing.
use Rattle.std.specs.Prelude.{ℕ, suc, ◌+◌, ◌-◌, ◌*◌, ◌<◌, ◌≤◌, max, ◌≡◌, List, length, get_or, take}
use Rattle.papers.specs.Bounds.{max_columns}
use Rattle.papers.specs.Lists.{◌∈◌}
use Rattle.papers.specs.Tree.{t}
use Rattle.papers.specs.Order.{sibling_key_of}
use Rattle.order_laws.specs.Subtrees.{in_turn, update_but_last}
use Rattle.list_laws.specs.Parts.{part}
use Rattle.room.specs.Rows.{row_count_in, ColumnStarts, most_entries}

-- the key of child c of column j, where rooms holds the W of each column
abbrev pub key_at : ℕ → List ℕ → List ℕ → ℕ → ℕ → ℕ
key_at mark factor rooms j c = sibling_key_of mark (row_count_in factor j) (row_count_in factor c) (get_or rooms c 0)

-- computes the W of column j from its children's, done in this order: each is above the updates of the earlier ones, and the front is over
-- the update of the last
abbrev pub need_at : List ℕ → List ℕ → List ℕ → ℕ → ℕ
need_at factor rooms kids j = max (in_turn (row_count_in factor) (λ c. get_or rooms c 0) 0 kids)
    (update_but_last (row_count_in factor) kids + t (suc (row_count_in factor j)))

-- column j and its children, whose W rooms holds; no W exceeds so many largest fronts
pub record Kids (factor rooms kids : List ℕ) (j : ℕ) : Type 0 where
  pub top : ColumnStarts factor j
  pub column : (c : ℕ) → c ∈ kids → ColumnStarts factor c
  pub known : (c : ℕ) → c ∈ kids → c < length rooms
  pub light : (c : ℕ) → c ∈ kids → get_or rooms c 0 ≤ max_columns * most_entries
  pub few : length kids ≤ max_columns

-- the same if work holds the W from w to k, and has room for the keys behind them
pub record Keyable (factor kids : List ℕ) (j : ℕ) (work : List ℕ) (w k : ℕ) : Type 0 where
  pub children : Kids factor (part w k work) kids j
  pub rise : w ≤ k
  pub room : k + (k - w) ≤ length work

-- the keys of the children are stored from k on, and the places before k keep their numbers
pub record Keyed (k : ℕ) (key : ℕ → ℕ) (kids before after : List ℕ) : Type 0 where
  pub same : take k after ≡ take k before
  pub keys : (c : ℕ) → c ∈ kids → get_or after (k + c) 0 ≡ key c
