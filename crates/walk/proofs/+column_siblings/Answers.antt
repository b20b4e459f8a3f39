-- Proves the two tasks, which call each other: each relies on the other's contract for fewer columns. The children of a column take one step less
-- than its block, and the block is no larger than at the start. The siblings' steps contain two blocks, so the one that is done has fewer columns
-- than were left.
-- Assumes nothing.
use Rattle.std.proofs.Common.{arith, rules}
use Rattle.walk.proofs.Down.{down-task, down-leaf, down_turn}
use Rattle.walk.proofs.OneKept.{first-listed, first_fits, first-kept, kept-stop}
use Rattle.walk.proofs.OneKept.{next-listed, two-fit, next-task, next-kept, child-kept}
use Rattle.walk.proofs.+column_siblings.Goals as goal

-- ---- the column's task

pub column-siblings-b-requires : goal.column-siblings-b-requires
column-siblings-b-requires t c =
    let inv = c.loop-b.invariant in
    (omega (arith, c.loop-b-test.true, inv.task.asks.fits, inv.after), down-task inv c.loop-b-test.true)

pub column-loop-b-preserved : goal.column-loop-b-preserved
column-loop-b-preserved t c = down_turn c.loop-b.invariant c.loop-b-test.true c.siblings-b.ensures (omega arith)

pub column-returns : goal.column-returns
column-returns t c = down-leaf c.loop-b.invariant c.loop-b-test.false

-- ---- the siblings' task

pub siblings-child_block-kept-requires : goal.siblings-child_block-kept-requires
siblings-child_block-kept-requires t c = first-listed c.requires (search rules)

-- an only child has all the steps
pub siblings-returns-then-kept-left : goal.siblings-returns-then-kept-left
siblings-returns-then-kept-left t c = kept-stop (first-kept c.requires (omega arith) c.child_block-kept.ensures) (omega arith)

pub siblings-overflow_add-a : goal.siblings-overflow_add-a
siblings-overflow_add-a t c = let fits = first_fits c.requires c.child_block-kept.ensures in search rules

pub siblings-overflow_add-i : goal.siblings-overflow_add-i
siblings-overflow_add-i t c = let listed = first-listed c.requires (omega arith) in search rules

pub siblings-loop-a-init : goal.siblings-loop-a-init
siblings-loop-a-init t c = first-kept c.requires (omega arith) c.child_block-kept.ensures

pub siblings-child_block-child-requires : goal.siblings-child_block-child-requires
siblings-child_block-child-requires t c = next-listed c.loop-a.invariant c.loop-a-test.true (search rules)

pub siblings-column-requires : goal.siblings-column-requires
siblings-column-requires t c =
    let inv = c.loop-a.invariant in
    let more = c.loop-a-test.true in
    let child = c.child_block-child.ensures in
    (omega (arith, two-fit inv more child, c.if-child-kept.true), next-task inv more child)

pub siblings-overflow_add-i-then-child-kept : goal.siblings-overflow_add-i-then-child-kept
siblings-overflow_add-i-then-child-kept t c =
    let fits = two-fit c.loop-a.invariant c.loop-a-test.true c.child_block-child.ensures in
    search rules

pub siblings-loop-a-preserved-then-child-kept : goal.siblings-loop-a-preserved-then-child-kept
siblings-loop-a-preserved-then-child-kept t c =
    next-kept c.loop-a.invariant c.loop-a-test.true c.child_block-child.ensures c.column.ensures

pub siblings-overflow_add-a-else-child-kept : goal.siblings-overflow_add-a-else-child-kept
siblings-overflow_add-a-else-child-kept t c =
    let fits = two-fit c.loop-a.invariant c.loop-a-test.true c.child_block-child.ensures in
    search rules

pub siblings-overflow_add-i-else-child-kept : goal.siblings-overflow_add-i-else-child-kept
siblings-overflow_add-i-else-child-kept t c =
    let fits = two-fit c.loop-a.invariant c.loop-a-test.true c.child_block-child.ensures in
    search rules

pub siblings-loop-a-preserved : goal.siblings-loop-a-preserved
siblings-loop-a-preserved t c =
    child-kept c.loop-a.invariant c.loop-a-test.true c.child_block-child.ensures c.column-else-child-kept.ensures
