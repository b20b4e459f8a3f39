-- Proves that `gather` leaves R(m + 1) in a buffer. Without a child it copies the pattern rows; else it joins them with what the longest child hands
-- on, and then with what the other children hand on.
-- Assumes nothing.
use Prim.Native.Nat.{ℕ}
use mathlib.Core.Path.{sym}
use mathlib.Core.List.{List}
use native.Mathlib.Omega.{arith}
use lib.Seq.{length-take-le}
use Rattle.column_list.proofs.Begins.{part_of, own-fits, alone, linked, longest-stands}
use Rattle.column_list.proofs.Begins.{First, first-link, first_fits, first-len, single, first-markable, several, all-joined}
use Rattle.column_list.proofs.gather.Goals as goal
use Rattle.column_list.proofs.gather.Goals.{After-handed_on-more}

abbrev own : After-handed_on-more → List ℕ
own c = c.column-own.result.now

-- Once the longest child has handed on its rows, what is known of these and the pattern rows: the answers below cite it with `first (search)`.
first : (c : After-handed_on-more) → First c.args.n c.args.m c.args.pattern.starts.now c.args.pattern.rows.now
    c.args.factor.starts.now c.args.factor.rows.now c.args.work.now c.args.x.now c.args.y.now
    (own c) c.handed_on-more.result.now
first c =
    record {
      gatherable = c.requires;
      own_is = c.column-own.ensures;
      some = c.if-c-eq0.false;
      child = c.longest-d.result;
      longest = c.longest-d.ensures;
      more-is = c.handed_on-more.ensures;
    }

pub column-own-requires : goal.column-own-requires
column-own-requires c = part_of c.requires.next

pub copy_at-requires : goal.copy_at-requires
copy_at-requires c = omega (arith, own-fits c.requires c.column-own.ensures)

pub returns-then-c-eq0 : goal.returns-then-c-eq0
returns-then-c-eq0 c = alone c.requires c.column-own.ensures c.if-c-eq0.true c.copy_at.ensures

pub longest-d-requires : goal.longest-d-requires
longest-d-requires c = linked c.requires

pub handed_on-more-requires : goal.handed_on-more-requires
handed_on-more-requires c = longest-stands c.requires c.if-c-eq0.false c.longest-d.ensures

pub unite-len-requires : goal.unite-len-requires
unite-len-requires c = first_fits (first (goal.at.unite-len-requires c).After-handed_on-more)

pub overflow_add-n : goal.overflow_add-n
overflow_add-n c = omega (arith, first-link (first (goal.at.overflow_add-n c).After-handed_on-more), c.well_formed)

pub offset_bounds-work-n : goal.offset_bounds-work-n
offset_bounds-work-n c = omega (arith, first-link (first (goal.at.offset_bounds-work-n c).After-handed_on-more), c.well_formed)

pub bounds-work-n : goal.bounds-work-n
bounds-work-n c = first-link (first (goal.at.bounds-work-n c).After-handed_on-more)

pub returns-then-work-n-eq0 : goal.returns-then-work-n-eq0
returns-then-work-n-eq0 c = single (first (goal.at.returns-then-work-n-eq0 c).After-handed_on-more) c.unite-len.ensures c.if-work-n-eq0.true

pub slice_bounds-mark-end : goal.slice_bounds-mark-end
slice_bounds-mark-end c = first-len (first (goal.at.slice_bounds-mark-end c).After-handed_on-more) c.unite-len.ensures

pub slice_bounds-mark-end-2 : goal.slice_bounds-mark-end-2
slice_bounds-mark-end-2 c = sym (length-take-le _ _ (first-len (first (goal.at.slice_bounds-mark-end-2 c).After-handed_on-more) c.unite-len.ensures))

pub mark-requires : goal.mark-requires
mark-requires c = first-markable (first (goal.at.mark-requires c).After-handed_on-more) c.unite-len.ensures

pub join_children-requires : goal.join_children-requires
join_children-requires c =
    several (first (goal.at.join_children-requires c).After-handed_on-more) c.unite-len.ensures c.mark.ensures (omega arith)

pub returns : goal.returns
returns c =
    all-joined (first (goal.at.returns c).After-handed_on-more) c.unite-len.ensures c.mark.ensures (omega arith)
    c.join_children.ensures
