-- Proves that `in_use` computes a step's room: if the step pops, its front begins below the top update, else above all updates. The sums are small,
-- so adding a front still fits.
-- Assumes nothing.
use Rattle.std.proofs.Common.{ℕ, ◌+◌, ◌-◌, min, ◌≡◌, List, arith, get_or}
use Rattle.papers.specs.Tree.{t}
use Rattle.room.proofs.Entries.{entries_fit}
use Rattle.room.proofs.in_use.Goals as goal

room-is : (below : List ℕ) (depth pops rows : ℕ) {x u : ℕ} → x ≡ min pops 1 → u ≡ t (rows + 1) → get_or below (depth - x) 0 + u ≡ get_or below
    (depth - min pops 1) 0 + t (rows + 1)
room-is below depth pops rows e f = rw (e, f)

pub overflow_add-result : goal.overflow_add-result
overflow_add-result c =
    omega (
      arith,
      c.requires.light (c.args.depth - c.min.result) (omega arith),
      c.entries.ensures,
      entries_fit (c.args.rows + 1) (omega (arith, c.requires.few)),
    )

pub returns : goal.returns
returns c =
    let e = c.args in
    room-is e.below.now e.depth e.pops e.rows c.min.ensures c.entries.ensures
