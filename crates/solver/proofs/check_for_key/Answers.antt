-- Proves that `check_for_key` makes the check for the key's job: its columns and rows are within the program's sizes, so a second reading puts its
-- lists whole at the start of two buffers, and there they are the job's lists.
-- Assumes nothing.
use Rattle.solver.proofs.Keys.{key-answer}
use Rattle.solver.proofs.check_for_key.Goals as goal

pub returns : goal.returns
returns c =
    let within = c.requires in
    key-answer within.parts within.columns-fit within.rows_fit _ _ _ c.read_lists.ensures _ c.check_in_buffers.ensures
