-- Proves that `hold` does a step: the sums below the popped updates stay, and the new update's entries added to the last of them make the next sum,
-- which still fits.
-- Assumes nothing.
use Rattle.std.proofs.Common.{ℕ, ◌+◌, ◌-◌, ap, arith, get_or, set}
use Rattle.room.proofs.Entries.{entries_fit}
use Rattle.room.proofs.hold.Goals as goal

pub overflow_add-below : goal.overflow_add-below
overflow_add-below c =
    omega (
      arith,
      c.requires.light (c.args.depth - c.args.pops) (omega arith),
      c.entries.ensures,
      entries_fit c.args.rows (omega (arith, c.requires.few)),
    )

pub returns : goal.returns
returns c = let e = c.args in
    let left = e.depth - e.pops in record {
      counted = omega (arith, c.min.ensures);
      summed = ap (λ (v : ℕ). set e.below.now (left + 1) (get_or e.below.now left 0 + v)) c.entries.ensures;
    }
