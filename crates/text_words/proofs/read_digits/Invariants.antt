-- Proves that `read_digits` reads the digits: the first i bytes are digits, and value is what they make.
-- Assumes nothing.
use Rattle.text_words.specs.Words.{DigitsRead}
use Rattle.text_words.proofs.read_digits.Given as goal

abbrev pub invariant-loop-i : goal.invariant-loop-i
invariant-loop-i l = DigitsRead l.text l.at l.i l.value
