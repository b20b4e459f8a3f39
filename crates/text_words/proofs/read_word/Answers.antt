-- Proves that `read_word` reads a decimal with a space or a newline behind it. It reads all digits there, so if they are no decimal, or another byte
-- follows, a line that begins there has no numbers.
-- Assumes nothing.
use Rattle.std.proofs.Common.{rules, sym, ◌∙◌}
use Rattle.text_words.proofs.Numbers.{number-here, none-ended, none-bad, none_other}
use Rattle.text_words.proofs.read_word.Goals as goal

pub returns-then-text-end : goal.returns-then-text-end
returns-then-text-end c = record { none = none-ended _ _ c.read_digits-count.ensures c.if-text-end.true }

pub returns-then-not-is_decimal : goal.returns-then-not-is_decimal
returns-then-not-is_decimal c = record { none = none-bad _ _ c.read_digits-count.ensures (sym c.is_decimal.ensures ∙ c.if-not-is_decimal.true) }

pub returns-in-32 : goal.returns-in-32
returns-in-32 c =
    number-here _ _ c.read_digits-count.ensures (sym c.is_decimal.ensures ∙ c.if-not-is_decimal.false) c.if-text-end.false c.in-32.is

pub returns-in-10 : goal.returns-in-10
returns-in-10 c =
    number-here _ _ c.read_digits-count.ensures (sym c.is_decimal.ensures ∙ c.if-not-is_decimal.false) c.if-text-end.false c.in-10.is

pub returns-in_default : goal.returns-in_default
returns-in_default c = record { none = none_other _ _ c.read_digits-count.ensures (search rules) (search rules) }
