-- Proves that `read_number` reads the number at `at`, since the groups from i on, added on top of those before, give it. Each turn leaves one group
-- less that may come.
-- Assumes nothing.
use mathlib.Core.Logic.{inl, inr}
use native.Mathlib.Omega.{arith}
use Rattle.read_number.proofs.Carried.{carried-start, stop-end, stop-long, stop-zero, stop-value, turn}
use Rattle.read_number.proofs.read_number.Goals as goal
use Rattle.read_number.proofs.read_number.Goals.{else-b-eq0-via-then-b-eq0+else-at-i, else-b-eq0-via-else-b-eq0}

pub loop-i-init : goal.loop-i-init
loop-i-init c = carried-start _ _

pub returns-then-k-eq0 : goal.returns-then-k-eq0
returns-then-k-eq0 c = stop-long c.loop-i.invariant c.loop-i-test.true c.if-k-eq0.true

pub returns-then-at-i : goal.returns-then-at-i
returns-then-at-i c =
    let inv = c.loop-i.invariant in
    let there = c.loop-i-test.true in
    stop-zero inv there _ c.from-b.ensures (omega arith) c.if-b-eq0.true c.if-at-i.true

pub returns-then-b-lt128 : goal.returns-then-b-lt128
returns-then-b-lt128 c =
    let inv = c.loop-i.invariant in
    let there = c.loop-i-test.true in
    stop-value inv there _ c.from-b.ensures (omega arith) c.if-b-lt128.true
    (elim c.else-b-eq0.branch [ else-b-eq0-via-then-b-eq0+else-at-i w ↦ inl (omega arith) | else-b-eq0-via-else-b-eq0 w ↦ inr (omega arith) ])

pub loop-i-preserved : goal.loop-i-preserved
loop-i-preserved c =
    let inv = c.loop-i.invariant in
    let there = c.loop-i-test.true in
    turn inv there c.from-b.result c.from-b.ensures (omega arith) c.if-b-lt128.false (omega (arith, c.from-b.ensures, c.type_inv.s c.loop-i.i))

pub returns : goal.returns
returns c = stop-end c.loop-i.invariant c.loop-i-test.false
