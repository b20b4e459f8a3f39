-- Proves that `write_rows` writes all numbers, since storing those from the row on at next leaves what storing all of them leaves.
-- Assumes nothing.
use Rattle.list_laws.proofs.Writing.{writes-all}
use Rattle.listing_lines.proofs.Lines.{listed-fits, listed-turn, listed-stop}
use Rattle.listing_lines.proofs.write_rows.Goals as goal

pub loop-row-init : goal.loop-row-init
loop-row-init c = record { written = writes-all; fits = c.requires }

pub write_number-next-requires : goal.write_number-next-requires
write_number-next-requires c = listed-fits c.loop-row.invariant c.loop-row-test.true c.from.ensures

pub loop-row-preserved : goal.loop-row-preserved
loop-row-preserved c =
    listed-turn c.loop-row.invariant c.loop-row-test.true c.from.ensures
    c.write_number-next.ensures

pub returns : goal.returns
returns c = listed-stop c.loop-row.invariant c.loop-row-test.false
