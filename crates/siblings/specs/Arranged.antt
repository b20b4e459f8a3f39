-- Defines lists of children that are arranged by the mark, each in its place: what the passes over them are given, and what they leave.
-- Assumes nothing.
use Rattle.std.specs.Prelude.{ℕ, ◌+◌, ◌-◌, ◌<◌, ◌≤◌, ◌≡◌, List, length, get_or, set, take}
use Rattle.std.proofs.lemmas.List.Edits.{sets}
use Rattle.papers.specs.Bounds.{max_columns}
use Rattle.papers.specs.Lists.{sort}
use Rattle.papers.specs.Order.{alone, arranged, steps_of}
use Rattle.list_laws.specs.Parts.{part}
use Rattle.order_laws.specs.Subtrees.{Kin}
use Rattle.tree.specs.Blocks.{kids_at}
use Rattle.room.specs.Rows.{row_count_in, ColumnStarts}
use Rattle.sibling_keys.specs.Kids.{key_at, need_at, Kids}

-- ---- the children of one column: work holds the W of the columns from w to k, and has room for the keys behind them

pub record Sortable (factor kids work : List ℕ) (scratch j w k : ℕ) : Type 0 where
  pub children : Kids factor (part w k work) kids j
  pub own : w + j < k
  pub room : k + (k - w) ≤ length work
  pub enough : length kids ≤ scratch

-- the children by descending key
abbrev pub sorted_by : ℕ → List ℕ → List ℕ → List ℕ → ℕ → ℕ → ℕ → List ℕ
sorted_by mark factor kids work j w k = sort (key_at mark factor (part w k work) j) kids

-- the children are sorted, and the W of j is stored in its place; the places before the W keep their numbers
pub record SiblingsSorted (mark : ℕ) (factor kids work kids' work' : List ℕ) (j w k : ℕ) : Type 0 where
  pub sorted : kids' ≡ sorted_by mark factor kids work j w k
  pub rooms : part w k work' ≡ set (part w k work) j (need_at factor (part w k work) (sorted_by mark factor kids work j w k) j)
  pub same : take w work' ≡ take w work

-- ---- one column: the first numbers of work say where its list of children begins and ends

-- the children of j in the order in which the list holds them
abbrev pub siblings_at : List ℕ → List ℕ → ℕ → List ℕ
siblings_at work list j = part (get_or work j 0) (get_or work (j + 1) 0) list

pub record SiblingsPlaced (factor list work : List ℕ) (scratch j w k : ℕ) : Type 0 where
  pub kids : Kids factor (part w k work) (siblings_at work list j) j
  pub rise : get_or work j 0 ≤ get_or work (j + 1) 0
  pub inside : get_or work (j + 1) 0 ≤ length list
  pub starts : j + 1 < w
  pub own : w + j < k
  pub room : k + (k - w) ≤ length work
  pub enough : length list ≤ scratch

-- these children, sorted by descending key
abbrev pub sorted_in : ℕ → List ℕ → List ℕ → List ℕ → ℕ → ℕ → ℕ → List ℕ
sorted_in mark factor list work j w k = sorted_by mark factor (siblings_at work list j) work j w k

-- they are stored in their place, and the W of j in its own; the places before the W keep their numbers
pub record SiblingsArranged (mark : ℕ) (factor list work list' work' : List ℕ) (j w k : ℕ) : Type 0 where
  pub lists : list' ≡ sets list (get_or work j 0) (sorted_in mark factor list work j w k)
  pub rooms : part w k work' ≡ set (part w k work) j (need_at factor (part w k work) (sorted_in mark factor list work j w k) j)
  pub same : take w work' ≡ take w work

-- ---- all columns 1 to n

-- lists of children: children are lower columns and have rows; no subtree has more than n steps
pub record Family (mark : ℕ) (factor : List ℕ) (kids : ℕ → List ℕ) (n : ℕ) : Type 0 where
  pub kin : Kin (row_count_in factor) kids
  pub column : (j : ℕ) → 0 < j → j ≤ n → ColumnStarts factor j
  pub rows : (j : ℕ) → row_count_in factor j ≤ max_columns
  pub short : (j : ℕ) → 0 < j → j ≤ n → length (steps_of mark (row_count_in factor) kids n j) ≤ n
  pub few : n ≤ max_columns

-- the W of column j
abbrev pub alone_in : ℕ → List ℕ → (ℕ → List ℕ) → ℕ → ℕ → ℕ
alone_in mark factor kids n j = alone (row_count_in factor) kids (steps_of mark (row_count_in factor) kids n j)

-- the children of j by the mark
abbrev pub arranged_in : ℕ → List ℕ → (ℕ → List ℕ) → ℕ → ℕ → List ℕ
arranged_in mark factor kids n j = arranged mark (row_count_in factor) kids (steps_of mark (row_count_in factor) kids n) j

-- the starts of the lists: the first numbers of work, two more than there are columns
abbrev pub starts_in : List ℕ → List ℕ → List ℕ
starts_in list work = take (length list + 2) work

pub record Arrangeable (mark : ℕ) (factor list work : List ℕ) (scratch w k : ℕ) : Type 0 where
  pub family : Family mark factor (kids_at (starts_in list work) list) (length list)
  pub rise : (j : ℕ) → j ≤ length list → get_or work j 0 ≤ get_or work (j + 1) 0
  pub inside : (j : ℕ) → j ≤ length list → get_or work (j + 1) 0 ≤ length list
  pub starts : length list + 2 ≤ w
  pub rooms : k ≡ w + (length list + 1)
  pub room : k + (length list + 1) ≤ length work
  pub enough : length list ≤ scratch

-- every list but that of the roots is sorted by the mark; the places before the W keep their numbers
pub record AllArranged (mark : ℕ) (factor list work list' work' : List ℕ) (w : ℕ) : Type 0 where
  pub lists : (j : ℕ) → 0 < j → j ≤ length list
      → kids_at (starts_in list work) list' j ≡ arranged_in mark factor (kids_at (starts_in list work) list) (length list) j
  pub roots : kids_at (starts_in list work) list' 0 ≡ kids_at (starts_in list work) list 0
  pub same : take w work' ≡ take w work
