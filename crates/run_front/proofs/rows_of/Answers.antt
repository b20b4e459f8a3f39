-- Proves that `rows_of` gives a column's rows: its two starts ascend and are within the rows, so the part between them exists.
-- Assumes nothing.
use native.Mathlib.Omega.{arith}
use Rattle.run_front.proofs.Columns.{lies, part-is-column}
use Rattle.run_front.proofs.rows_of.Goals as goal

pub bounds-factor-c : goal.bounds-factor-c
bounds-factor-c c = let l = lies c.requires in omega arith

pub bounds-factor-c-2 : goal.bounds-factor-c-2
bounds-factor-c-2 c = (lies c.requires).listed

pub offset_bounds-factor-from : goal.offset_bounds-factor-from
offset_bounds-factor-from c = let l = lies c.requires in omega arith

pub slice_bounds-result-count : goal.slice_bounds-result-count
slice_bounds-result-count c = (lies c.requires).rising

pub slice_bounds-result-start : goal.slice_bounds-result-start
slice_bounds-result-start c = (lies c.requires).rising

pub slice_bounds-result-end : goal.slice_bounds-result-end
slice_bounds-result-end c = (lies c.requires).within

pub returns : goal.returns
returns c = part-is-column c.requires
