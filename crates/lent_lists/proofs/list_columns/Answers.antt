-- Proves that `list_columns` writes the column lists: the slices are long enough, and the first places of order and pops serve as buffers. If all
-- columns are done, it clears the places behind the lists, and the buffers.
-- Assumes nothing.
use native.Mathlib.Omega.{arith}
use Rattle.std.proofs.Common.{◌+◌, ◌≤◌, ◌∙◌, ◌++◌, length, drop}
use Rattle.list_laws.proofs.From.{cleared-from}
use Rattle.lent_lists.proofs.Listings.{last_fits, parts-behind, parts-long, others-long, all_listed}
use Rattle.lent_lists.proofs.list_columns.Goals as goal

-- the rows of all columns fit
pub offset_bounds-frows-last : goal.offset_bounds-frows-last
offset_bounds-frows-last c = omega (arith, last_fits c.requires c.column_lists-done.ensures c.if-done-n.false)

pub slice_bounds-fill-count-5 : goal.slice_bounds-fill-count-5
slice_bounds-fill-count-5 c = last_fits c.requires c.column_lists-done.ensures c.if-done-n.false

pub slice_bounds-fill-start-5 : goal.slice_bounds-fill-start-5
slice_bounds-fill-start-5 c = last_fits c.requires c.column_lists-done.ensures c.if-done-n.false

pub returns : goal.returns
returns c =
    let n = c.args.n in
    let long = c.requires.long in
    let listed = c.column_lists-done in
    let keep-order = others-long n c.args.order.now listed.new.x (omega (arith, long)) listed.auto.x in
    let keep-pops = others-long n c.args.pops.now listed.new.y (omega (arith, long)) listed.auto.y in
    let order-whole : n ≤ length (listed.new.x ++ drop n c.args.order.now) = omega (arith, keep-order, long) in
    let pops-whole : n ≤ length (listed.new.y ++ drop n c.args.pops.now) = omega (arith, keep-pops, long) in
    let order-zero = c.fill-2.ensures.after (λ y e. e) in
    let pops-zero = c.fill-3.ensures.after (λ y e. e) in
    all_listed c.requires listed.ensures c.if-done-n.false
    (cleared-from n _ (omega (arith, long, listed.auto.parents)) (c.fill.ensures.after (λ y e. e)))
    (parts-behind n _ order-whole order-zero) (parts-long n _ order-whole order-zero ∙ keep-order)
    (parts-behind n _ pops-whole pops-zero) (parts-long n _ pops-whole pops-zero ∙ keep-pops)
    (cleared-from (n + 1) _ (omega (arith, long, listed.auto.fstarts)) (c.fill-4.ensures.after (λ y e. e)))
    (cleared-from _ _ (last_fits c.requires listed.ensures c.if-done-n.false) (c.fill-5.ensures.after (λ y e. e)))
