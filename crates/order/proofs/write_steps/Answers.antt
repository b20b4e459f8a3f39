-- Proves that `write_steps` writes the order: the lists laid out are what arranging requires, and once arranged they are what the walk requires.
-- Assumes nothing.
use Rattle.std.proofs.Common.{arith}
use Rattle.order.proofs.Walked.{walk-asked}
use Rattle.order.proofs.Lying.{arrange-asked, lists-lie, steps-written}
use Rattle.order.proofs.write_steps.Goals as goal

pub arrange-requires : goal.arrange-requires
arrange-requires c =
    let lay-out = c.lay_out in
    arrange-asked c.requires lay-out.ensures (omega arith) (omega arith)

pub steps-requires : goal.steps-requires
steps-requires c =
    let pre = c.requires in
    let lay-out = c.lay_out in
    let arrange = c.arrange in
    walk-asked (lists-lie pre lay-out.ensures (omega arith) (omega arith) arrange.ensures
    (omega arith)) _
    (omega (arith, pre.order-length))

pub returns : goal.returns
returns c =
    let pre = c.requires in
    let lay-out = c.lay_out in
    let arrange = c.arrange in
    steps-written pre lay-out.ensures (omega arith) (omega arith) arrange.ensures
    (omega arith) _ c.steps.ensures (omega (arith, pre.order-length))
