-- Proves that `peak` finds the greatest room: after each step below holds the sums of the updates held, and most is the greatest room so far.
-- Assumes nothing.
use Rattle.std.proofs.Common.{arith, rules, ℕ, ◌<◌, ◌≡◌, length, length-append, get_or, [], ◌∷◌}
use Rattle.std.proofs.lemmas.Slice.Zip.{zip_turn, zip_end}
use Rattle.room.proofs.Stacks.{stacked-over, peaked-start, peaked-stop, peaked-turn}
use Rattle.room.proofs.peak.Goals as goal
use Rattle.room.proofs.peak.Goals.{In-Some}

pub returns : goal.returns
returns c =
    let ended = zip_end c.args.order.now c.args.pops.now c.loop-column.yielded c.into_iter-column-iterator.result c.loop-column.column-iterator
    c.next.new.self c.next.result (search rules) (search rules) c.loop-column.yielded_by c.in-None.is c.next.ensures.steps in
    peaked-stop _ _ _ c.loop-column.invariant (omega (arith, ended, c.requires.stepped.same))

-- the pair of this turn stands at the number of the turns before it
here : (c : In-Some) → (length c.loop-column.yielded < length c.args.order.now) × (length c.loop-column.yielded < length c.args.pops.now)
    × ((d : ℕ) → c.in-Some.column.now ≡ get_or c.args.order.now (length c.loop-column.yielded) d)
    × ((d : ℕ) → c.in-Some.popped.now ≡ get_or c.args.pops.now (length c.loop-column.yielded) d)
here c =
    zip_turn c.args.order.now c.args.pops.now c.loop-column.yielded c.into_iter-column-iterator.result c.loop-column.column-iterator
    c.next.new.self c.next.result (search rules) (search rules)
    c.loop-column.yielded_by (c.in-Some.column, c.in-Some.popped) c.in-Some.is c.next.ensures.steps

pub loop-column-init : goal.loop-column-init
loop-column-init c = peaked-start _ _ _ c.args.below.now c.requires.room

pub rows_of-rows-requires : goal.rows_of-rows-requires
rows_of-rows-requires c =
    let h = here (goal.at.rows_of-rows-requires c).In-Some in
    rw (h.2 0) (c.requires.stepped.column (length c.loop-column.yielded) h.0)

pub in_use-requires : goal.in_use-requires
in_use-requires c =
    let h = here (goal.at.in_use-requires c).In-Some in
    rw (h.3 0) (stacked-over _ _ _ c.loop-column.invariant.stacked c.requires.stepped h.0
    (rw (h.2 0) at c.rows_of-rows.ensures))

pub hold-depth-requires : goal.hold-depth-requires
hold-depth-requires c =
    let h = here (goal.at.hold-depth-requires c).In-Some in
    rw (h.3 0) (stacked-over _ _ _ c.loop-column.invariant.stacked c.requires.stepped h.0
    (rw (h.2 0) at c.rows_of-rows.ensures))

pub loop-column-preserved : goal.loop-column-preserved
loop-column-preserved c =
    let h = here (goal.at.loop-column-preserved c).In-Some in
    rw (length-append c.loop-column.yielded ((c.in-Some.column, c.in-Some.popped) ∷ []))
    (peaked-turn _ _ _ c.loop-column.invariant c.requires.stepped h.0
    (rw (h.2 0) at c.rows_of-rows.ensures) (rw (h.3 0) at c.in_use.ensures) c.max-most.ensures
    (rw (h.3 0) at c.hold-depth.ensures))
