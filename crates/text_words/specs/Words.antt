-- Defines what is read at a place of a text: digits, the number that they make with the byte behind them, and the line that begins there.
-- Assumes nothing.
use Rattle.std.specs.Prelude.{ℕ, ◌+◌, ◌<◌, ◌≤◌, ◌≡◌, ◌⊎◌, Bool, true, false, Option, None, Some, List, [], ◌∷◌, ◌++◌, length, get_or, take, drop}
use Rattle.papers.specs.Bounds.{max_digits}
use Rattle.papers.specs.Text.{newline, space, value_of, decimal_of, after_lines, numbers_at}
use Rattle.text_laws.specs.Grammar.{All, DigitByte, Short}
use Rattle.text_words.specs.declared.Word.{Word}

-- the first `count` bytes from `at` on are digits, no more than a decimal may have
pub record DigitsAt (text : List ℕ) (at count : ℕ) : Type 0 where
  pub digits : All DigitByte (take count (drop at text))
  pub few : count ≤ max_digits
  pub inside : at + count ≤ length text

-- these digits have this value
pub record DigitsRead (text : List ℕ) (at count value : ℕ) : Type 0 where
  pub there : DigitsAt text at count
  pub valued : value ≡ value_of 0 (take count (drop at text))

-- no digit follows them, unless a decimal may have no more
abbrev pub Stop : List ℕ → ℕ → ℕ → Type 0
Stop text at count = (count ≡ max_digits) ⊎ ((at + count ≡ length text) ⊎ (¬ DigitByte (get_or text (at + count) 0)))

-- the digits from `at` on are read as far as a decimal may go
pub record DigitsFound (text : List ℕ) (at count value : ℕ) : Type 0 where
  pub reads : DigitsRead text at count value
  pub stops : Stop text at count

-- the text has the number x at `at`, then the byte b, and next is the place behind that
pub record DecimalAt (text : List ℕ) (at b x next : ℕ) : Type 0 where
  pub short : Short x
  pub stands : drop at text ≡ decimal_of x ++ (b ∷ drop next text)
  pub on : at < next
  pub inside : next ≤ length text

-- the byte that ends a number: a newline if that ends the line too, else a space
abbrev pub end_of : Bool → ℕ
end_of true = newline
end_of false = space

-- a line that begins at `at` has no numbers
pub record NoNumbers (text : List ℕ) (at : ℕ) : Type 0 where
  pub none : numbers_at (drop at text) 1 ≡ []

-- What is read at `at`: a number before a space or before a newline; else a line that begins there has no numbers.
abbrev pub WordRead : List ℕ → ℕ → Option Word → Type 0
WordRead text at (Some word) = DecimalAt text at (end_of word.ends_line) word.value word.next
WordRead text at None = NoNumbers text at

-- the line that begins at `at` ends just before next
pub record LineTo (text : List ℕ) (at next : ℕ) : Type 0 where
  pub rest : drop next text ≡ after_lines 1 (drop at text)
  pub on : at < next
  pub inside : next ≤ length text
