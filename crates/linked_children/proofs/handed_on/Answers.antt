-- Proves that `handed_on` gives the rows that a column hands on: the part begins one place behind the column's start, since the least row is the
-- parent and is not handed on.
-- Assumes nothing.
use mathlib.Core.Path.{refl}
use Rattle.linked_children.proofs.handed_on.Goals as goal

pub returns : goal.returns
returns c = refl
