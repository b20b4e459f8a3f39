-- Proves that `write_list` stores a list, since storing the gaps from i on at next leaves what storing all of them behind the count leaves. A turn
-- writes a run of rows, so fewer rows are left.
-- Assumes nothing.
use Prim.Native.Nat.{◌-◌}
use mathlib.Core.Path.{refl}
use native.Mathlib.Omega.{arith}
use Rattle.bytes_laws.proofs.Numbers.{bytes-length}
use Rattle.write_gaps.proofs.Rows.{place-near}
use Rattle.write_lists.proofs.Counted.{list-stop}
use Rattle.write_lists.proofs.Runs.{run-list, run-turn}
use Rattle.write_lists.proofs.write_list.Goals as goal

pub write_run-next-requires : goal.write_run-next-requires
write_run-next-requires c =
    let loop = c.loop-i in
    record {
      list = run-list loop.invariant.rows_left c.run_end-end.ensures;
      near = omega (
        arith,
        place-near loop.invariant c.requires.list,
        c.put-next.ensures.place,
        bytes-length (c.args.to - c.args.from),
        c.requires.near,
      );
    }

pub loop-i-preserved : goal.loop-i-preserved
loop-i-preserved c =
    run-turn c.loop-i.invariant c.run_end-end.ensures refl c.write_run-next.ensures

pub returns : goal.returns
returns c = list-stop c.requires.list c.put-next.ensures c.loop-i.invariant c.loop-i-test.false
