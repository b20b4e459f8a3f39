-- Defines the words in which the grammar of a job text is stated.
-- Assumes nothing.
use Rattle.std.specs.Prelude.{ℕ, ◌^◌, ◌<◌, ◌≤◌, ◌≡◌, ◌⊎◌, ◌≢◌, List, [], ◌∷◌, ◌++◌, length, get_or}
use Rattle.papers.specs.Bounds.{max_digits}
use Rattle.papers.specs.Text.{newline, space, digit}

-- every element has a property
abbrev pub All : {A : Type 0} → (A → Type 0) → List A → Type 0
All P [] = Unit {0}
All P (x ∷ xs) = P x × All P xs

-- a byte that is a digit; one that ends no word; one that ends no line
abbrev pub DigitByte : ℕ → Type 0
DigitByte b = (digit 0 ≤ b) × (b ≤ digit 9)

abbrev pub InWord : ℕ → Type 0
InWord b = b ≢ space

abbrev pub InLine : ℕ → Type 0
InLine b = b ≢ newline

-- a number of at most 13 digits
abbrev pub Short : ℕ → Type 0
Short x = x < 10 ^ max_digits

-- a word of digits: one to 13 of them, and no 0 before others
pub record Decimal (w : List ℕ) : Type 0 where
  pub digits : All DigitByte w
  pub some : 0 < length w
  pub few : length w ≤ max_digits
  pub lead : 1 < length w → get_or w 0 0 ≢ digit 0

-- words with one space between
abbrev pub spaced : List ℕ → List (List ℕ) → List ℕ
spaced w [] = w
spaced w (v ∷ vs) = w ++ (space ∷ spaced v vs)

-- the byte after each word: a space, and a newline behind the last
abbrev pub Ends : ℕ → Type 0
Ends b = (b ≡ space) ⊎ (b ≡ newline)

-- the numbers of the rest of a line, behind those read before; none if the rest has none
unfoldable pub behind : List ℕ → List ℕ → List ℕ
behind xs [] = []
behind xs (y ∷ ys) = xs ++ (y ∷ ys)
