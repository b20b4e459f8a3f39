-- Proves that `write_gaps` stores all gaps, since storing the gaps from i on at next leaves what storing all of them leaves.
-- Assumes nothing.
use mathlib.Core.Path.{refl}
use native.Mathlib.Omega.{arith}
use Rattle.write_gaps.proofs.Rows.{row_within, place-near, write-turn, gaps-stop}
use Rattle.write_gaps.proofs.write_gaps.Goals as goal

pub put-next-requires : goal.put-next-requires
put-next-requires c =
    let loop = c.loop-i in
    record {
      fits = omega (arith, c.from.ensures, row_within loop.invariant.rows_left c.loop-i-test.true refl);
      near = omega (arith, place-near loop.invariant c.requires.list, c.requires.near);
    }

pub loop-i-preserved : goal.loop-i-preserved
loop-i-preserved c =
    write-turn c.loop-i.invariant c.loop-i-test.true refl (rw c.from.ensures at c.put-next.ensures)

pub returns : goal.returns
returns c = gaps-stop c.loop-i.invariant c.loop-i-test.false
