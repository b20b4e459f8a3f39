-- Proves that `walk` does every column at row i: those from c on are left, and a turn climbs from the first of them and files it under its next row.
-- Each turn leaves fewer rows ahead.
-- Assumes nothing.
use Prim.Native.Nat.{◌+◌, ◌<◌}
use native.Mathlib.Omega.{arith}
use lib.ListN.{length}
use Rattle.rows_needed.proofs.Walks.{column, climbing, step_fits, filing, walked, falls}
use Rattle.rows_needed.proofs.walk.Goals as goal
use Rattle.rows_needed.proofs.walk.Goals.{In-loop-c}

-- column c has its places in work: this is the last of them
place : (c : In-loop-c) → c.args.n + c.args.n + c.args.n + c.loop-c.c
    < length c.args.work.now
place c =
    omega (arith, column c.loop-c.invariant.walk c.loop-c-test.true, c.loop-c.invariant.walk.buckets.long, c.loop-c.invariant.long-w)

pub overflow_add-next-in-loop-c : goal.overflow_add-next-in-loop-c
overflow_add-next-in-loop-c c = omega (arith, place (goal.at.overflow_add-next-in-loop-c c).In-loop-c, c.well_formed)

pub offset_bounds-work-n-in-loop-c : goal.offset_bounds-work-n-in-loop-c
offset_bounds-work-n-in-loop-c c = omega (arith, place (goal.at.offset_bounds-work-n-in-loop-c c).In-loop-c, c.well_formed)

pub bounds-work-n-in-loop-c : goal.bounds-work-n-in-loop-c
bounds-work-n-in-loop-c c = omega (arith, place (goal.at.bounds-work-n-in-loop-c c).In-loop-c, c.loop-c.invariant.long-w)

pub climb-t-requires : goal.climb-t-requires
climb-t-requires c = climbing c.loop-c.invariant.walk c.loop-c-test.true

pub bounds-work-n-in-loop-c-2 : goal.bounds-work-n-in-loop-c-2
bounds-work-n-in-loop-c-2 c = omega (arith, place (goal.at.bounds-work-n-in-loop-c-2 c).In-loop-c, c.loop-c.invariant.long-w)

pub overflow_add-q-in-loop-c-3 : goal.overflow_add-q-in-loop-c-3
overflow_add-q-in-loop-c-3 c =
    let fits = step_fits c.loop-c.invariant.walk c.loop-c-test.true c.climb-t.ensures
    (omega arith) (omega arith) in
    omega (arith, fits, c.well_formed)

pub file-requires : goal.file-requires
file-requires c =
    filing c.loop-c.invariant.walk c.loop-c-test.true c.climb-t.ensures
    (omega arith) (omega arith)

pub loop-c-smaller : goal.loop-c-smaller
loop-c-smaller c =
    falls c.loop-c.invariant.walk c.loop-c-test.true c.climb-t.ensures
    (omega arith) (omega arith) c.file.ensures

pub loop-c-preserved : goal.loop-c-preserved
loop-c-preserved c =
    record {
      walk = walked c.loop-c.invariant.walk c.loop-c-test.true c.climb-t.ensures
          (omega arith) (omega arith) c.file.ensures;
      long-p = omega (arith, c.loop-c.invariant.long-p);
      long-w = omega (arith, c.loop-c.invariant.long-w);
    }
