-- Defines the lines of the steps of an order that the slices of an analysis hold.
-- Assumes nothing.
use Rattle.std.specs.Prelude.{ℕ, zero, suc, ◌+◌, ◌<◌, ◌≤◌, List, [], ◌∷◌, ◌++◌, length, get_or}
use Rattle.papers.specs.Job.{column_of}
use Rattle.papers.specs.Room.{room_at}
use Rattle.papers.specs.Text.{decimal_of, printed}
use Rattle.room.specs.Rows.{ColumnStarts}
use Rattle.room.specs.Steps.{rows_at, pops_of_step, entries_at, StepsDoable}

module _ (order pops starts rows : List ℕ) where
  -- the room in use at the step after the first k
  abbrev pub room_behind : ℕ → ℕ
  room_behind k = room_at (pops_of_step pops (suc k)) (rows_at starts order (suc k)) (entries_at starts order pops k)

  -- the line of that step
  unfoldable pub line_behind : ℕ → List ℕ
  line_behind k = printed (decimal_of (get_or order k 0)) (get_or pops k 0 ∷ room_behind k ∷ column_of starts rows (get_or order k 0))

  -- the lines of the first k steps
  unfoldable pub lines_to : ℕ → List ℕ
  lines_to zero = []
  lines_to (suc k) = lines_to k ++ line_behind k

-- the steps can be done, and the slices hold the rows of their columns
pub record Printable (order pops starts rows : List ℕ) : Type 0 where
  pub stepped : StepsDoable starts order pops
  pub inside : (k : ℕ) → k < length order → get_or starts (get_or order k 0) 0 ≤ length rows

-- the line of a step of column j can be written from `at` on: the slices hold the column's rows, and the line fits
pub record LineFits (j pops room : ℕ) (starts rows bytes : List ℕ) (at : ℕ) : Type 0 where
  pub column : ColumnStarts starts j
  pub inside : get_or starts j 0 ≤ length rows
  pub fits : at + length (printed (decimal_of j) (pops ∷ room ∷ column_of starts rows j)) ≤ length bytes

-- the lines of all steps can be written from `at` on: below has places for the sums of the updates, and the lines fit
pub record LinesFit (order pops starts rows below bytes : List ℕ) (at : ℕ) : Type 0 where
  pub printable : Printable order pops starts rows
  pub wide : length order < length below
  pub fits : at + length (lines_to order pops starts rows (length order)) ≤ length bytes
