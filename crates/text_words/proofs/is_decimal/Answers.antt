-- Proves that `is_decimal` refuses exactly an empty list of digits and a 0 before others.
-- Assumes nothing.
use mathlib.Core.Path.{sym}
use native.Mathlib.Omega.{arith}
use Rattle.text_words.proofs.Scan.{digits_decimal, none-decimal, lead-decimal}
use Rattle.text_words.proofs.is_decimal.Goals as goal

pub returns-then-count-eq0 : goal.returns-then-count-eq0
returns-then-count-eq0 c = sym (none-decimal _ _ c.requires c.if-count-eq0.true)

pub returns-then-count-eq1 : goal.returns-then-count-eq1
returns-then-count-eq1 c = let e = c.if-count-eq1.true in sym (digits_decimal _ _ c.requires (omega arith) (λ l. absurd (omega arith)))

pub returns : goal.returns
returns c = let e = c.if-count-eq0.false in let f = c.if-count-eq1.false in lead-decimal _ _ c.requires (omega arith)
