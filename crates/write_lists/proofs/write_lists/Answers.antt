-- Proves that `write_lists` stores all lists, since storing those behind the first `done` at next leaves what storing all of them leaves.
-- Assumes nothing.
use native.Mathlib.Omega.{arith}
use Rattle.list_laws.proofs.Writing.{writes-all}
use Rattle.job_laws.proofs.Passed.{lists-iff}
use Rattle.write_lists.proofs.Columns.{column-list, list-near, lists-turn, lists-stop}
use Rattle.write_lists.proofs.write_lists.Goals as goal

pub loop-done-init : goal.loop-done-init
loop-done-init c =
    let asked = c.requires in
    record {
      few = asked.few;
      lists = (lists-iff _ _ _).0 (asked.starts-pass, asked.rows_pass);
      high = omega arith;
      written = writes-all;
      near = asked.near;
    }

pub write_list-next-requires : goal.write_list-next-requires
write_list-next-requires c =
    let inv = c.loop-done.invariant in
    record { list = column-list inv.few inv.lists c.loop-done-test.true; near = list-near inv }

pub loop-done-preserved : goal.loop-done-preserved
loop-done-preserved c = lists-turn c.loop-done.invariant c.loop-done-test.true c.write_list-next.ensures

pub returns : goal.returns
returns c = lists-stop c.loop-done.invariant c.loop-done-test.false
