-- Proves that `is_all_marked` tests a list against R(m + 1): exactly the rows of R(m + 1) are marked and counted. A list with another number of rows
-- differs; one with as many is R(m + 1) exactly if all its rows are marked.
-- Assumes nothing.
use mathlib.Core.Path.{◌∙◌}
use Rattle.check_marks.proofs.Judging.{not-as-many, as_many}
use Rattle.check_marks.proofs.is_all_marked.Goals as goal

pub returns-then-list-mark_column : goal.returns-then-list-mark_column
returns-then-list-mark_column c =
    record {
      answers = not-as-many c.mark_column.ensures _ c.if-list-mark_column.true;
      changed = c.mark_column.ensures.changed;
    }

pub returns : goal.returns
returns c =
    record {
      answers = c.covered.ensures ∙ as_many c.requires c.mark_column.ensures c.if-list-mark_column.false;
      changed = c.mark_column.ensures.changed;
    }
