-- Proves that `too_short` tests the lengths: each test that holds makes the slices too short, and if the first four fail, the last decides.
-- Assumes nothing.
use Rattle.lent_tests.proofs.Shorts.{short-parents, short-order, short-pops, short-starts, short-work}
use Rattle.lent_tests.proofs.too_short.Goals as goal

pub returns-then-parents-n : goal.returns-then-parents-n
returns-then-parents-n c = short-parents _ _ _ _ _ _ c.if-parents-n.true

pub returns-then-order-n : goal.returns-then-order-n
returns-then-order-n c = short-order _ _ _ _ _ _ c.if-parents-n.false c.if-order-n.true

pub returns-then-pops-n : goal.returns-then-pops-n
returns-then-pops-n c = short-pops _ _ _ _ _ _ c.if-parents-n.false c.if-order-n.false c.if-pops-n.true

pub returns-then-starts-n : goal.returns-then-starts-n
returns-then-starts-n c = short-starts _ _ _ _ _ _ c.if-parents-n.false c.if-order-n.false c.if-pops-n.false c.if-starts-n.true

pub returns : goal.returns
returns c =
    rw c.work_length.ensures
    (short-work _ _ _ _ _ _ c.if-parents-n.false c.if-order-n.false c.if-pops-n.false c.if-starts-n.false)
