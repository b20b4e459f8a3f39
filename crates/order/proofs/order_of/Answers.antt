-- Proves that `order_of` writes the order and its pops: it writes the steps, counts each column's children by the starts, and one pass over both
-- finds the peak.
-- Assumes nothing.
use Rattle.std.proofs.Common.{arith}
use Rattle.order.proofs.Peaks.{pops-asked, peak-given, order-made}
use Rattle.order.proofs.order_of.Goals as goal

pub count_pops-requires : goal.count_pops-requires
count_pops-requires c =
    let write-steps = c.write_steps in
    pops-asked c.requires write-steps.ensures (omega arith) (omega arith)

pub peak-requires : goal.peak-requires
peak-requires c =
    let write-steps = c.write_steps in
    peak-given c.requires write-steps.ensures (omega arith) c.count_pops.ensures

pub returns : goal.returns
returns c =
    let write-steps = c.write_steps in
    order-made c.requires write-steps.ensures (omega arith) c.count_pops.ensures
    c.peak.ensures
