-- Proves that `write_steps` stores all steps, since storing those behind the steps that came at next leaves what storing all of them leaves.
-- Assumes nothing.
use Rattle.std.proofs.Common.{arith, rules, ℕ, ◌<◌, ◌≡◌, length, length-append, get_or, [], ◌∷◌}
use Rattle.std.proofs.lemmas.Slice.Zip.{zip_turn, zip_end}
use Rattle.write_plan.proofs.Steps.{column-near, pops-near, write-turn, write-stop}
use Rattle.write_plan.proofs.write_steps.Goals as goal
use Rattle.write_plan.proofs.write_steps.Goals.{In-Some}

pub returns : goal.returns
returns c =
    let ended = zip_end c.args.order.now c.args.pops.now c.loop-column.yielded c.into_iter-column-iterator.result c.loop-column.column-iterator
    c.next.new.self c.next.result (search rules) (search rules) c.loop-column.yielded_by c.in-None.is c.next.ensures.steps in
    write-stop c.loop-column.invariant (omega (arith, ended, c.requires.paired))

-- the pair of this turn stands at the number of the turns before it
here : (c : In-Some) → (length c.loop-column.yielded < length c.args.order.now) × (length c.loop-column.yielded < length c.args.pops.now)
    × ((d : ℕ) → c.in-Some.column.now ≡ get_or c.args.order.now (length c.loop-column.yielded) d)
    × ((d : ℕ) → c.in-Some.popped.now ≡ get_or c.args.pops.now (length c.loop-column.yielded) d)
here c =
    zip_turn c.args.order.now c.args.pops.now c.loop-column.yielded c.into_iter-column-iterator.result c.loop-column.column-iterator
    c.next.new.self c.next.result (search rules) (search rules)
    c.loop-column.yielded_by (c.in-Some.column, c.in-Some.popped) c.in-Some.is c.next.ensures.steps

pub put-next-requires : goal.put-next-requires
put-next-requires c =
    let h = here (goal.at.put-next-requires c).In-Some in
    record {
      fits = omega (arith, c.from.ensures, h.2 0, c.type_inv.order (length c.loop-column.yielded));
      near = omega (arith, column-near c.loop-column.invariant, c.requires.near);
    }

pub put-next-requires-in-loop-column : goal.put-next-requires-in-loop-column
put-next-requires-in-loop-column c =
    let h = here (goal.at.put-next-requires-in-loop-column c).In-Some in
    record {
      fits = omega (arith, c.from-in-loop-column.ensures, h.3 0, c.type_inv.pops (length c.loop-column.yielded));
      near = omega (
        arith,
        pops-near c.loop-column.invariant h.0 (rw (c.from.ensures, h.2 0) at c.put-next.ensures),
        c.requires.near,
      );
    }

pub loop-column-preserved : goal.loop-column-preserved
loop-column-preserved c =
    let h = here (goal.at.loop-column-preserved c).In-Some in
    rw (length-append c.loop-column.yielded ((c.in-Some.column, c.in-Some.popped) ∷ []))
    (write-turn c.loop-column.invariant h.0 (rw (c.from.ensures, h.2 0) at c.put-next.ensures)
    (rw (c.from-in-loop-column.ensures, h.3 0) at c.put-next-in-loop-column.ensures))
