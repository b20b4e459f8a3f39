-- Proves that `number` makes the bytes of x, since the groups left, stored from count on, complete them, and each turn stores the low group. Each
-- turn makes the rest smaller.
-- Assumes nothing.
use Prim.Native.Nat.{◌<◌}
use native.Mathlib.Omega.{arith}
use Rattle.papers.specs.Bounds.{max_groups}
use Rattle.bytes_laws.proofs.Numbers.{bytes-length}
use Rattle.groups.proofs.Written.{written_start, turn, stop, inside}
use Rattle.groups.proofs.number.Goals as goal
use Rattle.groups.proofs.number.Goals.{At-loop-v}

-- the array has a place for the next group
room : (c : At-loop-v) → c.loop-v.count < max_groups
room c = omega (arith, inside c.loop-v.invariant, bytes-length c.args.x)

pub loop-v-init : goal.loop-v-init
loop-v-init c = written_start _ 0 _ c.requires

pub bounds-bytes-count : goal.bounds-bytes-count
bounds-bytes-count c = omega (arith, room (goal.at.bounds-bytes-count c).At-loop-v)

pub overflow_add-count : goal.overflow_add-count
overflow_add-count c = omega (arith, room (goal.at.overflow_add-count c).At-loop-v)

pub loop-v-preserved : goal.loop-v-preserved
loop-v-preserved c = turn c.loop-v.invariant c.loop-v-test.true

pub bounds-bytes-count-2 : goal.bounds-bytes-count-2
bounds-bytes-count-2 c = omega (arith, room (goal.at.bounds-bytes-count-2 c).At-loop-v)

pub overflow_add-result : goal.overflow_add-result
overflow_add-result c = omega (arith, room (goal.at.overflow_add-result c).At-loop-v)

pub returns : goal.returns
returns c =
    let (stored, place) = stop c.loop-v.invariant c.loop-v-test.false in
    record { stored = stored; counted = omega arith }
