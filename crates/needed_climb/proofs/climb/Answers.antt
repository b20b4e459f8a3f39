-- Proves that `climb` marks and counts each column on the way: each has row i, and so has its parent unless that is row i itself. It ends at a marked
-- column, at the latest at column i. Each turn goes to a higher column.
-- Assumes nothing.
use native.Mathlib.Omega.{arith}
use Rattle.needed_climb.proofs.Climbs.{begin, Here, here, go-new, go-up, go-old}
use Rattle.needed_climb.proofs.climb.Goals as goal
use Rattle.needed_climb.proofs.climb.Goals.{In-loop-work}

-- Behind that test the column is below i and has its places: the answers below cite this with `bounds (search)`.
bounds : (c : In-loop-work) → Here c.args.i c.loop-work.c c.loop-work.parents c.loop-work.work c.loop-work.t
bounds c = here c.requires c.loop-work.invariant c.loop-work-test.true

pub loop-work-init : goal.loop-work-init
loop-work-init c = begin c.requires

pub overflow_add-t : goal.overflow_add-t
overflow_add-t c = omega (arith, bounds (goal.at.overflow_add-t c).In-loop-work)

pub bounds-parents-c : goal.bounds-parents-c
bounds-parents-c c = (bounds (goal.at.bounds-parents-c c).In-loop-work).in_p

pub overflow_cast-parents : goal.overflow_cast-parents
overflow_cast-parents c = omega (arith, bounds (goal.at.overflow_cast-parents c).In-loop-work)

pub bounds-parents-c-then-p-eq0 : goal.bounds-parents-c-then-p-eq0
bounds-parents-c-then-p-eq0 c = (bounds (goal.at.bounds-parents-c-then-p-eq0 c).In-loop-work).in_p

pub loop-work-preserved-then-p-eq0 : goal.loop-work-preserved-then-p-eq0
loop-work-preserved-then-p-eq0 c = go-new c.requires c.loop-work.invariant c.loop-work-test.true c.if-p-eq0.true

pub loop-work-smaller : goal.loop-work-smaller
loop-work-smaller c =
    omega (arith, go-up c.requires c.loop-work.invariant c.loop-work-test.true c.if-p-eq0.false)

pub loop-work-preserved : goal.loop-work-preserved
loop-work-preserved c = go-old c.requires c.loop-work.invariant c.loop-work-test.true c.if-p-eq0.false
