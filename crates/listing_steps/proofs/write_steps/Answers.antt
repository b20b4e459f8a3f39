-- Proves that `write_steps` writes all lines: after k steps their lines are written, and below holds the sums of the updates then held.
-- Assumes nothing.
use Rattle.room.proofs.Stacks.{stacked-over}
use Rattle.listing_steps.proofs.Printing.{printing-start, printing-stop, printing-fits, printing-turn}
use Rattle.listing_steps.proofs.write_steps.Goals as goal

pub loop-k-init : goal.loop-k-init
loop-k-init c = printing-start _ _ _ _ c.args.below.now _ _ c.requires.wide

pub rows_of-rows-requires : goal.rows_of-rows-requires
rows_of-rows-requires c = c.requires.printable.stepped.column c.loop-k.k c.loop-k-test.true

pub in_use-used-requires : goal.in_use-used-requires
in_use-used-requires c =
    stacked-over _ _ _ c.loop-k.invariant.stacked c.requires.printable.stepped c.loop-k-test.true
    c.rows_of-rows.ensures

pub write_column-next-requires : goal.write_column-next-requires
write_column-next-requires c =
    record {
      column = c.requires.printable.stepped.column c.loop-k.k c.loop-k-test.true;
      inside = c.requires.printable.inside c.loop-k.k c.loop-k-test.true;
      fits = printing-fits _ _ _ _ c.loop-k.invariant c.requires.printable c.loop-k-test.true
          c.rows_of-rows.ensures c.in_use-used.ensures c.requires.fits;
    }

pub hold-depth-requires : goal.hold-depth-requires
hold-depth-requires c =
    stacked-over _ _ _ c.loop-k.invariant.stacked c.requires.printable.stepped c.loop-k-test.true
    c.rows_of-rows.ensures

pub loop-k-preserved : goal.loop-k-preserved
loop-k-preserved c =
    printing-turn _ _ _ _ c.loop-k.invariant c.requires.printable c.loop-k-test.true
    c.rows_of-rows.ensures c.in_use-used.ensures c.write_column-next.ensures
    c.hold-depth.ensures

pub returns : goal.returns
returns c = printing-stop _ _ _ _ c.loop-k.invariant c.loop-k-test.false
