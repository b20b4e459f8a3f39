-- Proves that `entries_of` computes an update's entries: a column has fewer rows than there are columns, so their triangle fits.
-- Assumes nothing.
use mathlib.Core.Path.{ap, ◌∙◌}
use native.Mathlib.Omega.{arith}
use lib.ListN.{length}
use Rattle.papers.specs.Tree.{t}
use Rattle.run_front.proofs.Columns.{column_fits}
use Rattle.run_front.proofs.entries_of.Goals as goal

pub entries-requires : goal.entries-requires
entries-requires c =
    let asked = c.requires in
    omega (arith, asked.tested.few, column_fits asked.tested asked.column, ap length c.rows_of.ensures)

pub returns : goal.returns
returns c = c.entries.ensures ∙ ap (λ l. t (length l)) c.rows_of.ensures
