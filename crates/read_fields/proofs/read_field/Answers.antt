-- Proves that `read_field` reads a field: a byte below 128 is a number, two bytes may be one, and read_long reads any other. Each is then tested
-- against its range.
-- Assumes nothing.
use Rattle.read_fields.proofs.Answers.{field-by-number, one-group}
use Rattle.read_fields.proofs.read_field.Goals as goal

pub returns-then-b-lt128 : goal.returns-then-b-lt128
returns-then-b-lt128 c =
    field-by-number _ _ _ _ (one-group _ _ c.if-at-plan.true c.from-b.ensures c.if-b-lt128.true)
    c.in_range.ensures

pub returns-in-Some : goal.returns-in-Some
returns-in-Some c = field-by-number _ _ _ _ (c.in-Some.ensures.1) c.in_range-in-Some.ensures
