-- Proves that `rows_of` counts a column's rows, which are no more than the greatest number of columns.
-- Assumes nothing.
use Rattle.std.proofs.Common.{refl, arith}
use Rattle.room.specs.Rows.{row_count_in}
use Rattle.room.proofs.rows_of.Goals as goal

pub returns : goal.returns
unfolding row_count_in
returns c = record { same = refl; few = omega (arith, c.requires.few) }
