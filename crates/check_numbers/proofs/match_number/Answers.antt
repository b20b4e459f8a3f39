-- Proves that `match_number` compares a number: one below 128 is a single byte, which it compares at once; of any other it compares all bytes.
-- Assumes nothing.
use mathlib.Core.Path.{sym, ◌∙◌}
use Rattle.check_numbers.proofs.Bytes.{one_byte}
use Rattle.check_numbers.proofs.match_number.Goals as goal

pub returns-then-from-x : goal.returns-then-from-x
returns-then-from-x c = one_byte _ _ _ c.if-x-lt128.true c.if-at-plan.true (sym c.from.ensures ∙ c.if-from-x.true)
