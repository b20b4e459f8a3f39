-- Proves that `column` gives a column's rows: the part between its start and the next one.
-- Assumes nothing.
use Rattle.column_laws.proofs.Columns.{column-part}
use Rattle.lists.proofs.Lists.column.Goals as goal

pub returns : goal.returns
returns c = column-part _ _ _
