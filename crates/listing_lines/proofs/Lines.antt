-- Proves that a line is its first word, the numbers with a space before each, and a newline, written one after the other.
-- Assumes nothing.
use Prim.Native.Nat.{ℕ, ◌+◌, ◌<◌, ◌≤◌}
use mathlib.Core.Path.{◌≡◌, refl, sym, ap, ◌∙◌}
use mathlib.Core.List.{List, [], ◌∷◌, ◌++◌, append_assoc}
use native.Mathlib.Omega.{arith}
use native.Mathlib.Numerals.{add-one}
use lib.ListN.{length, get_or, set, drop, drop_of_length-le, length-set}
use lib.Seq.{drop-cons}
use Rattle.papers.specs.Text.{newline, space, decimal_of, printed}
use Rattle.list_laws.specs.Wrote.{Wrote}
use Rattle.list_laws.proofs.Writing.{wrote-byte, wrote-both, Writes, writes-all, writes-part, part-fits, writes-last, writes-none}
use Rattle.listing_lines.specs.Numbered.{numbered}

-- ---- the numbers of a slice

-- the first i numbers are written
pub record Listed (rows d₀ : List ℕ) (at : ℕ) (d : List ℕ) (next i : ℕ) : Type 0 where
  pub written : Writes (numbered rows) d₀ at (numbered (drop i rows)) d next
  pub fits : at + length (numbered rows) ≤ length d₀

module _ {rows d₀ : List ℕ} {at : ℕ} {d : List ℕ} {next i : ℕ} (l : Listed rows d₀ at d next i) where
  module _ {x : ℕ} (h : i < length rows) (e : x ≡ get_or rows i 0) where
    number-next : numbered (drop i rows) ≡ (space ∷ decimal_of x) ++ numbered (drop (i + 1) rows)
    unfolding numbered
    number-next = rw (drop-cons rows i 0 h, e, add-one)

    pub listed-fits : next + length (space ∷ decimal_of x) ≤ length d
    listed-fits = part-fits l.written (space ∷ decimal_of x) (numbered (drop (i + 1) rows)) number-next l.fits

    pub listed-turn : {m : ℕ} {d' : List ℕ} → Wrote (space ∷ decimal_of x) d d' next m → Listed rows d₀ at d' m (i + 1)
    listed-turn p = record { written = writes-part l.written p number-next; fits = l.fits }

  pub listed-stop : length rows ≤ i → Wrote (numbered rows) d₀ d at next
  unfolding numbered
  listed-stop h = writes-none l.written (ap numbered (drop_of_length-le rows h))

-- ---- a whole line

-- a space, then a number
pub spaced-number : (x : ℕ) {bytes : List ℕ} {at : ℕ} {d : List ℕ} {m : ℕ} → Wrote (decimal_of x) (set bytes at space) d (at + 1) m
    → Wrote (space ∷ decimal_of x) bytes d at m
spaced-number x p = wrote-both wrote-byte p

-- the bytes behind the first word
abbrev pub tail : List ℕ → List ℕ
tail xs = numbered xs ++ (newline ∷ [])

printed-parts : (word xs : List ℕ) → printed word xs ≡ word ++ tail xs
unfolding printed numbered
printed-parts word [] = refl
printed-parts word (x ∷ xs) =
    ap (λ (l : List ℕ). word ++ (space ∷ l)) (printed-parts (decimal_of x) xs ∙ sym (append_assoc (decimal_of x) (numbered xs) (newline ∷ [])))

tail-next : (x : ℕ) (xs : List ℕ) → tail (x ∷ xs) ≡ (space ∷ decimal_of x) ++ tail xs
unfolding numbered
tail-next x xs = append_assoc (space ∷ decimal_of x) (numbered xs) (newline ∷ [])

module _ (word xs d₀ : List ℕ) (at : ℕ) where
  pub word_fits : at + length (printed word xs) ≤ length d₀ → at + length word ≤ length d₀
  word_fits h = part-fits (writes-all {d₀ = d₀}) word (tail xs) (printed-parts word xs) h

  pub behind-word : {d : List ℕ} {k : ℕ} → Wrote word d₀ d at k → Writes (printed word xs) d₀ at (tail xs) d k
  behind-word p = writes-part writes-all p (printed-parts word xs)

module _ {whole d₀ : List ℕ} {at : ℕ} {d : List ℕ} {k : ℕ} where
  -- writes a number more
  module _ (x : ℕ) (xs : List ℕ) (w : Writes whole d₀ at (tail (x ∷ xs)) d k) where
    pub number_fits : at + length whole ≤ length d₀ → k + length (space ∷ decimal_of x) ≤ length d
    number_fits h = part-fits w (space ∷ decimal_of x) (tail xs) (tail-next x xs) h

    pub behind-number : {e : List ℕ} {m : ℕ} → Wrote (space ∷ decimal_of x) d e k m → Writes whole d₀ at (tail xs) e m
    behind-number p = writes-part w p (tail-next x xs)

  -- writes all numbers that are left
  module _ (xs : List ℕ) (w : Writes whole d₀ at (tail xs) d k) where
    pub numbers_fit : at + length whole ≤ length d₀ → k + length (numbered xs) ≤ length d
    numbers_fit h = part-fits w (numbered xs) (newline ∷ []) refl h

    pub behind-numbers : {e : List ℕ} {m : ℕ} → Wrote (numbered xs) d e k m → Writes whole d₀ at (tail []) e m
    unfolding numbered
    behind-numbers p = writes-part w p refl

  -- writes the newline
  module _ (w : Writes whole d₀ at (tail []) d k) where
    pub end_fits : at + length whole ≤ length d₀ → k < length d
    unfolding numbered
    end_fits h = let p = w.place in let q = w.long in omega arith

    pub line-done : Wrote whole d₀ (set d k newline) at (k + 1)
    unfolding numbered
    line-done = writes-last w wrote-byte

    pub line-long : length (set d k newline) ≡ length d₀
    line-long = length-set d k newline ∙ w.long

-- writes a word and two numbers before those that are left
module _ (word : List ℕ) (x y : ℕ) (xs d₀ : List ℕ) (at : ℕ) {d₁ : List ℕ} {k₁ : ℕ} (p₁ : Wrote word d₀ d₁ at k₁) {d₂ : List ℕ}
    {k₂ : ℕ} (p₂ : Wrote (space ∷ decimal_of x) d₁ d₂ k₁ k₂) where
  pub behind-one : Writes (printed word (x ∷ y ∷ xs)) d₀ at (tail (y ∷ xs)) d₂ k₂
  behind-one = behind-number x (y ∷ xs) (behind-word word (x ∷ y ∷ xs) d₀ at p₁) p₂

  pub behind-two : {d₃ : List ℕ} {k₃ : ℕ} → Wrote (space ∷ decimal_of y) d₂ d₃ k₂ k₃ → Writes (printed word (x ∷ y ∷ xs)) d₀ at (tail xs) d₃ k₃
  behind-two p₃ = behind-number y xs behind-one p₃
