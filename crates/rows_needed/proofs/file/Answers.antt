-- Proves that `file` makes the stores of the definition. Each has its place, since work has four places for a column, and the row it files under is
-- one of the columns.
-- Assumes nothing.
use mathlib.Core.Path.{sym, ◌∙◌}
use Rattle.rows_needed.proofs.Stores.{filed-some, filed-none, pushed-is}
use Rattle.rows_needed.proofs.file.Goals as goal

pub returns-then-q-pattern : goal.returns-then-q-pattern
returns-then-q-pattern c =
    sym (filed-some c.args.n c.args.c c.args.q c.args.pattern.starts.now
    c.args.pattern.rows.now c.args.work.now c.if-q-pattern.true ∙ pushed-is c.args.n _
    c.args.c _)

pub returns-else-q-pattern : goal.returns-else-q-pattern
returns-else-q-pattern c =
    sym (filed-none c.args.n c.args.c c.args.q c.args.pattern.starts.now
    c.args.pattern.rows.now c.args.work.now c.if-q-pattern.false)
