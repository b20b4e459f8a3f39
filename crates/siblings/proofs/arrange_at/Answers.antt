-- Proves that `arrange_at` sorts the children in their place: they are between the column's start and the next one, and come back there sorted.
-- Assumes nothing.
use Rattle.siblings.proofs.Placing.{placed-done}
use Rattle.siblings.proofs.arrange_at.Goals as goal

pub returns : goal.returns
returns c = placed-done c.requires c.sort_kids.ensures
