-- Proves which number digits and the byte behind them make. If a line that begins there has numbers, the first is these digits, since no more follow,
-- and the byte behind them ends it. So if either fails, the line has no numbers.
-- Assumes nothing.
use Prim.Native.Nat.{ℕ, ◌+◌, ◌<◌, ◌≤◌}
use mathlib.Core.Path.{◌≡◌, refl, sym, ap, ◌∙◌}
use mathlib.Core.Logic.{◌≢◌, inl, inr, ⊎_elim}
use mathlib.Core.Bool.{true, false}
use mathlib.Core.List.{List, [], ◌∷◌, ◌++◌, append-nil}
use native.Mathlib.Omega.{arith}
use native.Mathlib.Numerals.{add-one}
use lib.ListN.{length, get_or, take, drop, length-drop, length-append, take-append-drop}
use lib.Seq.{drop-cons, drop-drop, get_or-drop}
use Rattle.papers.specs.Text.{newline, space, is_decimal_number, decimal_of, numbers_at}
use Rattle.list_laws.proofs.Tests.{true-false}
use Rattle.text_laws.specs.Grammar.{DigitByte, Short, Ends}
use Rattle.text_laws.proofs.Parts.{all_back, within}
use Rattle.text_laws.proofs.Decimals.{decimal-digits}
use Rattle.text_laws.proofs.DecimalWords.{decimal-is, decimal-iff, decimal-word-iff}
use Rattle.text_laws.proofs.ByWords.{no_digit, first-number}
use Rattle.text_words.specs.Words.{Stop, DigitsFound, DecimalAt}
use Rattle.text_words.proofs.Scan.{digits_long}

first-behind : (text : List ℕ) (n : ℕ) {c : ℕ} {rest : List ℕ} → drop n text ≡ c ∷ rest → (n < length text) × (get_or text n 0 ≡ c)
first-behind text n {c} e =
    let z : n + 0 ≡ n = omega arith in
    (let l = ap length e in omega (arith, length-drop n text), sym (rw z at (get_or-drop n text 0 0)) ∙ ap (λ (l : List ℕ). get_or l 0 0) e)

module _ (text : List ℕ) (at : ℕ) {count value : ℕ} (found : DigitsFound text at count value) where
  abbrev digits : List ℕ
  digits = take count (drop at text)

  -- the digits come first, then the rest
  parts : drop at text ≡ digits ++ drop (at + count) text
  parts = sym (rw (drop-drop count at text) at (take-append-drop count (drop at text)))

  behind-digits : at + count < length text → drop (at + count) text ≡ get_or text (at + count) 0 ∷ drop (at + count + 1) text
  behind-digits h = rw add-one (drop-cons text (at + count) 0 h)

  -- a decimal, and the byte behind it
  pub number-here : {b : ℕ} → is_decimal_number digits ≡ true → at + count < length text → get_or text (at + count) 0 ≡ b
      → DecimalAt text at b value (at + count + 1)
  number-here {b} e h g =
      let (w, s) = (decimal-iff digits value).0 (e, sym found.reads.valued) in
      record { short = s; stands = parts ∙ rw (behind-digits h, g, ← w); on = omega arith; inside = omega arith }

  -- the first number of the line is these digits
  all_digits : {x b : ℕ} {rest : List ℕ} → Ends b → Short x → drop at text ≡ decimal_of x ++ (b ∷ rest)
      → (digits ≡ decimal_of x) × (drop (at + count) text ≡ b ∷ rest)
  all_digits {x} {b} {rest} n s e =
      let (u, f, g) = within DigitByte digits (decimal_of x) b (drop (at + count) text) rest found.reads.there.digits (no_digit b n)
      (sym parts ∙ e) in
      go u f g
    where
      no_more : (c : ℕ) (u : List ℕ) → decimal_of x ≡ digits ++ (c ∷ u) → drop (at + count) text ≡ c ∷ (u ++ (b ∷ rest)) → Stop text at count → ⊥
      no_more c u f g (inl z) =
          let few = (decimal-is x s).few in
          omega (arith, ap length f, length-append digits (c ∷ u), digits_long text at found.reads.there)
      no_more c u f g (inr (inl z)) = let (there, byte) = first-behind text (at + count) g in omega arith
      no_more c u f g (inr (inr z)) =
          let (there, byte) = first-behind text (at + count) g in
          z (rw byte (all_back DigitByte digits (c ∷ u) (rw f at (decimal-digits x))).0)

      go : (u : List ℕ) → decimal_of x ≡ digits ++ u → drop (at + count) text ≡ u ++ (b ∷ rest)
          → (digits ≡ decimal_of x) × (drop (at + count) text ≡ b ∷ rest)
      go [] f g = (sym (f ∙ append-nil digits), g)
      go (c ∷ u) f g = absurd (no_more c u f g found.stops)

  first-digits : (l : List ℕ) → numbers_at (drop at text) 1 ≡ l → ((x b : ℕ) (rest : List ℕ) → Ends b → digits ≡ decimal_of x
      → is_decimal_number digits ≡ true → drop (at + count) text ≡ b ∷ rest → ⊥) → l ≡ []
  first-digits [] e f = refl
  first-digits (x ∷ xs) e f =
      let (b, rest, n, s, g) = first-number (drop at text) x xs e in
      let (w, h) = all_digits n s g in
      absurd (f x b rest n w (rw w ((decimal-word-iff (decimal_of x)).1 (decimal-is x s))) h)

  -- the text ends there, the digits are no decimal, or the byte behind them does not end a number
  pub none-ended : length text ≤ at + count → numbers_at (drop at text) 1 ≡ []
  none-ended h = first-digits _ refl (λ x b rest n w i e. let z = ap length e in omega (arith, length-drop (at + count) text))

  pub none-bad : is_decimal_number digits ≡ false → numbers_at (drop at text) 1 ≡ []
  none-bad h = first-digits _ refl (λ x b rest n w i e. true-false i h)

  pub none_other : get_or text (at + count) 0 ≢ space → get_or text (at + count) 0 ≢ newline → numbers_at (drop at text) 1 ≡ []
  none_other h g =
      first-digits _ refl (λ x b rest n w i e. let (there, byte) = first-behind text (at + count) e in ⊎_elim (λ (k : b ≡ space). h (byte ∙ k))
      (λ (k : b ≡ newline). g (byte ∙ k)) n)
