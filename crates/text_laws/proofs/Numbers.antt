-- Proves that a line reads as numbers exactly when it is those numbers printed, and each has at most 13 digits. The words of the line are
-- then their decimals, and no byte of a decimal ends a word or a line.
-- Assumes nothing.
use Prim.Native.Nat.{ℕ, suc, ◌-◌}
use mathlib.Core.Path.{◌≡◌, refl, sym, ap, ◌∙◌}
use mathlib.Core.Logic.{◌↔◌}
use mathlib.Core.Bool.{true, false}
use mathlib.Core.List.{List, [], ◌∷◌, ◌++◌, append_assoc, map}
use native.Mathlib.Omega.{arith}
use Rattle.papers.specs.Text.{newline, Cut, line, unended, cut, after_lines, words_of, is_decimal_number, all_decimal, value_of, numbers_of, numbers_at}
use Rattle.papers.specs.Text.{decimal_of, printed}
use Rattle.list_laws.proofs.Tests.{Test, passes, fails, test, and-iff}
use Rattle.text_laws.specs.Grammar.{All, DigitByte, InWord, InLine, Short, spaced}
use Rattle.text_laws.proofs.Parts.{all_append, all_map}
use Rattle.text_laws.proofs.Decimals.{decimal-digits}
use Rattle.text_laws.proofs.DecimalWords.{decimal-iff}
use Rattle.text_laws.proofs.Lines.{cut-iff}
use Rattle.text_laws.proofs.Words.{words-spaced, Line, line-words, printed-spaced}

pub no-cons : {A : Type 0} {x : A} {xs : List A} → ◌≡◌ {A = List A} [] (x ∷ xs) → ⊥
no-cons e = let z : ◌≡◌ {A = ℕ} 0 1 = cc in omega arith

-- ---- words

-- words are decimals of these values exactly when they are the decimals of these numbers
decimals-iff : (ws : List (List ℕ)) (xs : List ℕ) → ((all_decimal ws ≡ true) × (map (value_of 0) ws ≡ xs)) ↔ ((ws ≡ map decimal_of xs) × All Short xs)
unfolding all_decimal
decimals-iff [] [] = (λ h. (refl, tt), λ h. (refl, refl))
decimals-iff [] (x ∷ xs) = (λ h. absurd (no-cons h.1), λ h. absurd (no-cons h.0))
decimals-iff (w ∷ ws) [] = (λ h. absurd (no-cons (sym h.1)), λ h. absurd (no-cons (sym h.0)))
decimals-iff (w ∷ ws) (x ∷ xs) =
    let both = and-iff (is_decimal_number w) (all_decimal ws) in
    let word = decimal-iff w x in
    let rest = decimals-iff ws xs in (
      λ h.
          let e = h.1 in
          let (d, ds) = both.0 h.0 in
          let (a, s) = word.0 (d, cc) in
          let (b, t) = rest.0 (ds, cc) in
          (cc, (s, t)),
      λ h.
          let e = h.0 in
          let (d, v) = word.1 (cc, h.1.0) in
          let (ds, vs) = rest.1 (cc, h.1.1) in
          (both.1 (d, ds), cc),
    )

-- a line of decimals consists of digits and spaces
in-line : (w : List ℕ) (xs : List ℕ) → All DigitByte w → All InLine (spaced w (map decimal_of xs))
in-line w [] p = all_map (λ b d n. omega arith) w p
in-line w (x ∷ xs) p = all_append InLine w _ (all_map (λ b d n. omega arith) w p) (λ n. omega arith, in-line (decimal_of x) xs (decimal-digits x))

in_words : (xs : List ℕ) → All (All InWord) (map decimal_of xs)
in_words [] = tt
in_words (x ∷ xs) = (all_map (λ b d n. omega arith) (decimal_of x) (decimal-digits x), in_words xs)

-- ---- a line without its newline

module _ (l : List ℕ) where
  numbers-read : all_decimal (words_of l) ≡ true → numbers_of l ≡ map (value_of 0) (words_of l)
  unfolding numbers_of
  numbers-read e = rw (e, numbers_of)

  numbers-none : all_decimal (words_of l) ≡ false → numbers_of l ≡ []
  unfolding numbers_of
  numbers-none e = rw (e, numbers_of)

  numbers-of-iff : (x : ℕ) (xs : List ℕ) → (numbers_of l ≡ x ∷ xs) ↔ ((l ≡ spaced (decimal_of x) (map decimal_of xs)) × All Short (x ∷ xs))
  numbers-of-iff x xs = (there (line-words l) (test (all_decimal (words_of l))), back)
    where
      there : Line l → Test (all_decimal (words_of l)) → numbers_of l ≡ x ∷ xs → (l ≡ spaced (decimal_of x) (map decimal_of xs)) × All Short (x ∷ xs)
      there k (passes p) e =
          let (w, s) = (decimals-iff (words_of l) (x ∷ xs)).0 (p, sym (numbers-read p) ∙ e) in
          let f = k.are in
          let a : k.word ≡ decimal_of x = cc in
          let b : k.words ≡ map decimal_of xs = cc in
          (rw (← a, ← b) k.makes, s)
      there k (fails p) e = absurd (no-cons (sym (numbers-none p) ∙ e))

      back : (l ≡ spaced (decimal_of x) (map decimal_of xs)) × All Short (x ∷ xs) → numbers_of l ≡ x ∷ xs
      back h =
          let w = words-spaced (decimal_of x) (map decimal_of xs) (in_words (x ∷ xs)).0 (in_words xs) in
          let (d, v) = (decimals-iff (words_of l) (x ∷ xs)).1 (ap words_of h.0 ∙ w, h.1) in
          numbers-read d ∙ v

-- ---- a line of a text

printed-line : (x : ℕ) (xs rest : List ℕ) → printed (decimal_of x) xs ++ rest ≡ spaced (decimal_of x) (map decimal_of xs) ++ (newline ∷ rest)
printed-line x xs rest = rw (printed-spaced (decimal_of x) xs) (append_assoc (spaced (decimal_of x) (map decimal_of xs)) (newline ∷ []) rest)

module _ (text : List ℕ) (q : ℕ) where
  at-line : {l rest : List ℕ} → cut (after_lines (q - 1) text) ≡ line l rest → numbers_at text q ≡ numbers_of l
  unfolding numbers_at
  at-line e = rw (e, numbers_at)

  at-end : cut (after_lines (q - 1) text) ≡ unended → numbers_at text q ≡ []
  unfolding numbers_at
  at-end e = rw (e, numbers_at)

  -- line q reads as numbers exactly when the text continues there with those numbers printed
  pub numbers-iff : (x : ℕ) (xs : List ℕ)
      → (numbers_at text q ≡ x ∷ xs) ↔ ((rest : List ℕ) × (after_lines (q - 1) text ≡ printed (decimal_of x) xs ++ rest) × All Short (x ∷ xs))
  numbers-iff x xs = (there (cut (after_lines (q - 1) text)) refl, back)
    where
      there : (c : Cut) → cut (after_lines (q - 1) text) ≡ c → numbers_at text q ≡ x ∷ xs
          → (rest : List ℕ) × (after_lines (q - 1) text ≡ printed (decimal_of x) xs ++ rest) × All Short (x ∷ xs)
      there (line l rest) f e =
          let (a, s) = (numbers-of-iff l x xs).0 (sym (at-line f) ∙ e) in
          (rest, ((cut-iff (after_lines (q - 1) text) l rest).0 f).0 ∙ rw a (sym (printed-line x xs rest)), s)
      there unended f e = absurd (no-cons (sym (at-end f) ∙ e))

      back : (rest : List ℕ) × (after_lines (q - 1) text ≡ printed (decimal_of x) xs ++ rest) × All Short (x ∷ xs) → numbers_at text q ≡ x ∷ xs
      back h =
          let (rest, e, s) = h in
          let f = (cut-iff (after_lines (q - 1) text) (spaced (decimal_of x) (map decimal_of xs)) rest).1
          (e ∙ printed-line x xs rest, in-line (decimal_of x) xs (decimal-digits x)) in
          at-line f ∙ (numbers-of-iff (spaced (decimal_of x) (map decimal_of xs)) x xs).1 (refl, s)

-- a line is the first of the text behind the lines before it
pub numbers-later : (text : List ℕ) (q : ℕ) → numbers_at text (suc q) ≡ numbers_at (after_lines q text) 1
unfolding numbers_at after_lines
numbers-later text q = let e : suc q - 1 ≡ q = omega arith in rw (e, numbers_at)
