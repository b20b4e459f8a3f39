-- Defines the steps of an order and their pops in two slices, which the passes over them are given.
-- Assumes nothing.
use Rattle.std.specs.Prelude.{ℕ, suc, ◌+◌, ◌-◌, ◌*◌, ◌^◌, ◌<◌, ◌≤◌, min, ◌≡◌, List, [], length, get_or, set}
use Rattle.papers.specs.Bounds.{max_columns}
use Rattle.papers.specs.Lists.{up_to}
use Rattle.papers.specs.Tree.{t}
use Rattle.papers.specs.Order.{column_at_step}
use Rattle.order_laws.specs.Entries.{entries_after_all}
use Rattle.room.specs.Rows.{RisesAt, row_count_in, ColumnStarts, most_entries}

-- counts the rows of step s's column, where the first step is 1
abbrev pub rows_at : List ℕ → List ℕ → ℕ → ℕ
rows_at factor order s = row_count_in factor (column_at_step order s)

-- the pops of step s
abbrev pub pops_of_step : List ℕ → ℕ → ℕ
pops_of_step pops s = column_at_step pops s

-- the entries of each update held after the first s steps, the top one first
abbrev pub entries_at : List ℕ → List ℕ → List ℕ → ℕ → List ℕ
entries_at factor order pops s = entries_after_all (rows_at factor order) (pops_of_step pops) [] (up_to s)

-- a step pops no more updates than are held; below holds their small sums, from the lowest up, and a place for one more
pub record UpdatesSummed (below : List ℕ) (depth pops rows : ℕ) : Type 0 where
  pub enough : pops ≤ depth
  pub inside : depth + 1 < length below
  pub light : (i : ℕ) → i ≤ depth → get_or below i 0 ≤ max_columns * most_entries
  pub few : rows ≤ max_columns

-- the step is done: count updates are then held, and the sum up to the new one is stored in below
pub record StepDone (below : List ℕ) (depth pops rows : ℕ) (after : List ℕ) (count : ℕ) : Type 0 where
  pub counted : count ≡ depth - pops + min rows 1
  pub summed : after ≡ set below (depth - pops + 1) (get_or below (depth - pops) 0 + t rows)

-- every step names a known column, and no step pops more updates than are held
pub record StepsDoable (factor order pops : List ℕ) : Type 0 where
  pub column : (k : ℕ) → k < length order → ColumnStarts factor (get_or order k 0)
  pub enough : (k : ℕ) → k < length order → pops_of_step pops (suc k) ≤ length (entries_at factor order pops k)
  pub same : length pops ≡ length order
  pub few : length order ≤ max_columns

-- such steps, and below has a place for the sum of each update and one before them
pub record PeakGiven (factor order pops below : List ℕ) : Type 0 where
  pub stepped : StepsDoable factor order pops
  pub room : length order < length below

-- starts tell how many children each step's column has, and pops has a place for each step
pub record PopsGiven (starts order pops : List ℕ) : Type 0 where
  pub list : (k : ℕ) → k < length order → RisesAt starts (get_or order k 0)
  pub small : (k : ℕ) → k < length order → get_or starts (get_or order k 0 + 1) 0 < 2 ^ 32
  pub room : length pops ≡ length order
