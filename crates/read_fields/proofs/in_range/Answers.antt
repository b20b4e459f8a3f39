-- Proves that `in_range` finds a value from low to high, and answers 14 at the number's first place for any other.
-- Assumes nothing.
use Rattle.read_fields.proofs.Answers.{below-range, above-range, in-range}
use Rattle.read_fields.proofs.in_range.Goals as goal
use Rattle.read_fields.proofs.in_range.Goals.{then-value-low-via-then-value-low, then-value-low-via-else-value-low+then-high-value}

pub returns-then-value-low : goal.returns-then-value-low
returns-then-value-low c =
    rw c.fault_at.ensures
    (elim c.then-value-low.branch [
      | then-value-low-via-then-value-low w ↦ below-range _ _ _ _ _ w.if-value-low.true
      | then-value-low-via-else-value-low+then-high-value w ↦ above-range _ _ _ _ _ w.if-value-low.false w.if-high-value.true
    ])

pub returns : goal.returns
returns c = in-range _ _ _ _ _ c.if-value-low.false c.if-high-value.false
