-- Proves that `starts_fault` finds the first fault: no start of the first `done` columns falls, so the next column that ends before it begins is the
-- first. After all columns only the last start is left to test.
-- Assumes nothing.
use Rattle.std.proofs.Common.{sym}
use Rattle.job_laws.proofs.Starts.{start-at, starts-few, starts_from}
use Rattle.job_starts.proofs.Rising.{begin, next, fall, end, pass}
use Rattle.job_starts.proofs.starts_fault.Goals as goal

pub returns-then-starts-n : goal.returns-then-starts-n
returns-then-starts-n c = rw c.refuse.ensures (sym (starts-few _ _ _ c.if-starts-n.true))

pub returns-then-starts-ne0 : goal.returns-then-starts-ne0
returns-then-starts-ne0 c =
    rw c.refuse-then-starts-ne0.ensures (sym (starts_from _ _ _ c.if-starts-n.false (rw (start-at _ 0) c.if-starts-ne0.true)))

pub loop-done-init : goal.loop-done-init
loop-done-init c = begin _ c.if-starts-n.false c.if-starts-ne0.false

pub returns-then-starts-done : goal.returns-then-starts-done
returns-then-starts-done c =
    rw c.refuse-then-starts-done.ensures (sym (fall c.loop-done.invariant _ c.loop-done-test.true c.if-starts-done.true))

pub loop-done-preserved : goal.loop-done-preserved
loop-done-preserved c = next c.loop-done.invariant c.loop-done-test.true c.if-starts-done.false

pub returns-then-starts-n-2 : goal.returns-then-starts-n-2
returns-then-starts-n-2 c =
    rw c.refuse-then-starts-n-2.ensures (sym (end c.loop-done.invariant _ c.loop-done-test.false c.if-starts-n-2.true))

pub returns : goal.returns
returns c = sym (pass c.loop-done.invariant _ c.loop-done-test.false c.if-starts-n-2.false)
