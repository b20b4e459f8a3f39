-- Defines what the two tasks of the walk are given.
-- Assumes nothing.
use Rattle.std.specs.Prelude.{ℕ, ◌+◌, ◌^◌, ◌<◌, ◌≤◌, ◌≡◌, List, length, get_or}
use Rattle.papers.specs.Lists.{◌∈◌}
use Rattle.tree.specs.Blocks.{block_of, blocks, kids_at}

-- the columns are those below the length of counts; children are lower columns, and their descendants are counted
pub record Laid (starts list counts : List ℕ) : Type 0 where
  pub few : length counts ≤ 2 ^ 32
  pub long : length counts < length starts
  pub inside : (j : ℕ) → j < length counts → get_or starts (j + 1) 0 ≤ length list
  pub known : (j c : ℕ) → j < length counts → c ∈ kids_at starts list j → (0 < c) × (c < length counts)
  pub lower : (j c : ℕ) → 0 < j → c ∈ kids_at starts list j → (0 < c) × (c < j)
  pub counted : (j : ℕ) → 0 < j → j < length counts → get_or counts j 0 + 1 ≡ length (block_of (kids_at starts list) j)

-- the steps of column j's subtree
abbrev pub own_steps : List ℕ → List ℕ → ℕ → List ℕ
own_steps starts list j = block_of (kids_at starts list) j

-- the steps of the children's subtrees; those of 0 are the roots'
abbrev pub kids_steps : List ℕ → List ℕ → ℕ → List ℕ
kids_steps starts list j = blocks (kids_at starts list) (kids_at starts list j)

-- what a task requires: j is a column or 0, and its steps, `left` of them, fit into the order from `at` on
pub record Asked (starts list counts : List ℕ) (j left at room : ℕ) (steps : List ℕ) : Type 0 where
  pub laid : Laid starts list counts
  pub known : j < length counts
  pub count : left ≡ length steps
  pub fits : at + left ≤ room

-- what both tasks require besides: a column is left
pub record Task (starts list counts : List ℕ) (j left at room : ℕ) (steps : List ℕ) : Type 0 where
  pub asks : Asked starts list counts j left at room steps
  pub some : 0 < left
