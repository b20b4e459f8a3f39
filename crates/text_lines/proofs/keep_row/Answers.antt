-- Proves that `keep_row` stores a row at a place that the slice has; a store behind its end stores nothing (set_out).
-- Assumes nothing.
use mathlib.Core.Path.{sym, ap}
use lib.ListN.{set}
use lib.Seq.{set_out}
use Rattle.text_lines.specs.Narrowed.{narrowed}
use Rattle.text_lines.proofs.keep_row.Goals as goal

pub returns-then-i-rows : goal.returns-then-i-rows
returns-then-i-rows c = ap (set c.args.rows.now c.args.i) c.narrow.ensures

pub returns-else-i-rows : goal.returns-else-i-rows
returns-else-i-rows c = sym (set_out c.args.rows.now c.args.i (narrowed c.args.row) c.if-i-rows.false)
