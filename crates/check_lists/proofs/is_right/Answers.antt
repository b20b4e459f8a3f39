-- Proves that `is_right` tests a list against R(m + 1). With one child, a list that begins with what the child hands on need only add the pattern
-- rows; any other list is tested by the marks of its rows.
-- Assumes nothing.
use native.Mathlib.Omega.{arith}
use Rattle.column_list.proofs.Begins.{part_of}
use Rattle.check_lists.proofs.OneChild.{no-child, child-link, child-found, addable, one-child}
use Rattle.check_lists.proofs.is_right.Goals as goal

pub column-own-requires : goal.column-own-requires
column-own-requires c = part_of c.requires.next

pub returns-then-c-eq0 : goal.returns-then-c-eq0
returns-then-c-eq0 c = no-child c.requires c.column-own.ensures c.if-c-eq0.true c.same_rows.ensures

pub overflow_add-n : goal.overflow_add-n
overflow_add-n c = omega (arith, child-link c.requires c.column-own.ensures c.if-c-eq0.false, c.well_formed)

pub offset_bounds-work-n : goal.offset_bounds-work-n
offset_bounds-work-n c = omega (arith, child-link c.requires c.column-own.ensures c.if-c-eq0.false, c.well_formed)

pub bounds-work-n : goal.bounds-work-n
bounds-work-n c = child-link c.requires c.column-own.ensures c.if-c-eq0.false

pub handed_on-more-requires : goal.handed_on-more-requires
handed_on-more-requires c = child-found c.requires c.column-own.ensures c.if-c-eq0.false

pub adds_own-requires : goal.adds_own-requires
adds_own-requires c =
    addable c.requires c.column-own.ensures c.if-c-eq0.false c.if-work-n-eq0.true
    c.handed_on-more.ensures (c.begins_with.ensures c.if-begins_with.true)

pub returns-then-begins_with : goal.returns-then-begins_with
returns-then-begins_with c =
    one-child c.requires c.column-own.ensures c.if-c-eq0.false c.if-work-n-eq0.true
    c.handed_on-more.ensures (c.begins_with.ensures c.if-begins_with.true)
    c.adds_own.ensures
