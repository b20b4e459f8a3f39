-- Proves that `planned` makes the plan or refuses: a law covers each way out, with too many rows, with a peak over the limit, and with the plan made.
-- Every call keeps the lengths of the slices.
-- Assumes nothing.
use borrow.Author.Rules.{rules}
use Rattle.lent_plan.proofs.Plans.{listable-in, countable, made-rows, orderable, made-peak, made-done}
use Rattle.lent_plan.proofs.planned.Goals as goal

-- That the six lengths are kept is found by `search rules` in `lengths`.

pub list_columns-done-requires : goal.list_columns-done-requires
list_columns-done-requires c = listable-in c.requires

pub rows_needed-needed-requires : goal.rows_needed-needed-requires
rows_needed-needed-requires c =
    let lengths = c.list_columns-done.auto in
    countable c.requires c.list_columns-done.ensures (search rules)

pub returns-then-done-n : goal.returns-then-done-n
returns-then-done-n c =
    let lengths = c.list_columns-done.auto in
    rw c.refuse.ensures (made-rows c.requires c.list_columns-done.ensures (search rules)
    c.if-done-n.true c.rows_needed-needed.ensures)

pub order_columns-peak-requires : goal.order_columns-peak-requires
order_columns-peak-requires c =
    let lengths = c.list_columns-done.auto in
    orderable c.requires c.list_columns-done.ensures (search rules) c.if-done-n.false

pub returns-then-head-peak : goal.returns-then-head-peak
returns-then-head-peak c =
    let lengths = c.list_columns-done.auto in
    rw c.refuse-then-head-peak.ensures (made-peak c.requires c.list_columns-done.ensures (search rules)
    c.if-done-n.false c.order_columns-peak.ensures c.if-head-peak.true)

pub returns : goal.returns
returns c =
    let lengths = c.list_columns-done.auto in
    made-done c.requires c.list_columns-done.ensures (search rules)
    c.if-done-n.false c.order_columns-peak.ensures c.if-head-peak.false
