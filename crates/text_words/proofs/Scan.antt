-- Proves how digits are read one by one: one more makes the value ten times as great, plus that digit, and so few digits stay below 2^64. Their count
-- and the first of them decide whether they are a decimal.
-- Assumes nothing.
use Rattle.std.proofs.Common.{ℕ, suc, ◌+◌, ◌-◌, ◌*◌, ◌^◌, ◌<◌, ◌≤◌, ◌≡◌, refl, sym, ap, ◌∙◌, ◌≢◌, true, false, not, List, [], ◌∷◌, ◌++◌, arith, add-one, eqb}
use Rattle.std.proofs.Common.{length, get_or, take, drop, length-drop, take-suc, get_or-take, get_or-drop, length-take-le, eqb-true}
use native.Mathlib.Nat.{pow-le-pow_right}
use borrow.Author.Tests.{eqb-false}
use Rattle.papers.specs.Bounds.{max_digits}
use Rattle.papers.specs.Text.{is_decimal_number, value_of}
use Rattle.list_laws.proofs.Tests.{Test, passes, fails, test}
use Rattle.text_laws.specs.Grammar.{DigitByte, Decimal}
use Rattle.text_laws.proofs.Parts.{all_append}
use Rattle.text_laws.proofs.Decimals.{value-append, value-below}
use Rattle.text_laws.proofs.DecimalWords.{decimal-word-iff}
use Rattle.text_words.specs.Words.{DigitsAt, DigitsRead}

module _ (text : List ℕ) (at : ℕ) where
  -- the bytes that are read are a part of the text
  pub part_byte : (most i : ℕ) → i < most → get_or (take (at + most - at) (drop at text)) i 0 ≡ get_or text (at + i) 0
  part_byte most i h = get_or-take (at + most - at) (drop at text) i 0 (omega arith) ∙ get_or-drop at text i 0

  -- no digit yet
  pub digits-start : at ≤ length text → DigitsRead text at 0 0
  unfolding value_of
  digits-start h = record { there = record { digits = tt; few = omega arith; inside = omega arith }; valued = refl }

  module _ {i : ℕ} (d : DigitsAt text at i) where
    left-long : length (drop at text) ≡ length text - at
    left-long = length-drop at text

    pub digits_long : length (take i (drop at text)) ≡ i
    digits_long = let h = d.inside in length-take-le i (drop at text) (omega (arith, left-long))

    first-digit : 0 < i → get_or (take i (drop at text)) 0 0 ≡ get_or text at 0
    first-digit h = let z : at + 0 ≡ at = omega arith in get_or-take i (drop at text) 0 0 h ∙ (rw z at (get_or-drop at text 0 0))

    -- the digits are a decimal
    pub digits_decimal : 0 < i → (1 < i → get_or text at 0 ≢ 48) → is_decimal_number (take i (drop at text)) ≡ true
    digits_decimal h g =
        let e = digits_long in
        let few = d.few in
        (decimal-word-iff _).1 (record {
          digits = d.digits;
          some = omega arith;
          few = omega arith;
          lead = λ l z. g (omega arith) (sym (first-digit h) ∙ z);
        })

    -- the digits are no decimal
    pub no-decimal : ¬ Decimal (take i (drop at text)) → is_decimal_number (take i (drop at text)) ≡ false
    no-decimal h = go (test (is_decimal_number (take i (drop at text))))
      where
        go : Test (is_decimal_number (take i (drop at text))) → is_decimal_number (take i (drop at text)) ≡ false
        go (passes e) = absurd (h ((decimal-word-iff _).0 e))
        go (fails e) = e

    pub none-decimal : i ≡ 0 → is_decimal_number (take i (drop at text)) ≡ false
    none-decimal z = no-decimal (λ w. let s = w.some in omega (arith, digits_long))

    -- the first of several digits decides whether they are a decimal
    pub lead-decimal : 1 < i → not (eqb (get_or text at 0) 48) ≡ is_decimal_number (take i (drop at text))
    lead-decimal h = go (test (eqb (get_or text at 0) 48))
      where
        go : Test (eqb (get_or text at 0) 48) → not (eqb (get_or text at 0) 48) ≡ is_decimal_number (take i (drop at text))
        go (passes e) =
            let q = eqb-true (get_or text at 0) 48 e in
            rw e (sym (no-decimal (λ w. w.lead (omega (arith, digits_long)) (first-digit (omega arith) ∙ q))))
        go (fails e) = rw e (sym (digits_decimal (omega arith) (λ l. eqb-false (get_or text at 0) 48 e)))

  module _ {i value : ℕ} (d : DigitsRead text at i value) where
    -- after at most 12 digits one more may come
    pub digits-fit : i < max_digits → value < 10 ^ (max_digits - 1)
    digits-fit h =
        let grow = pow-le-pow_right {n = 10} (omega arith) {i = i} {j = max_digits - 1} (omega arith) in
        let below = value-below 0 (take i (drop at text)) d.there.digits in
        let e = d.valued in
        let g = ap (λ (n : ℕ). 10 ^ n) (digits_long d.there) in
        omega arith

    -- reads one more digit
    pub digits-turn : {b : ℕ} → i < max_digits → at + i < length text → b ≡ get_or text (at + i) 0 → DigitByte b
        → DigitsRead text at (i + 1) (10 * value + (b - 48))
    unfolding value_of
    digits-turn {b} h g e digit =
        let there : i < length (drop at text) = omega (arith, left-long d.there) in
        let last : get_or (drop at text) i 0 ≡ b = get_or-drop at text i 0 ∙ sym e in
        let parts : take (suc i) (drop at text) ≡ take i (drop at text) ++ (b ∷ []) = rw (← last) (take-suc (drop at text) i 0 there) in
        record {
          there = record {
            digits = rw (add-one, parts) (all_append DigitByte (take i (drop at text)) (b ∷ []) d.there.digits (digit, tt));
            few = omega arith;
            inside = omega arith;
          };
          valued = rw (add-one, parts, value-append 0 (take i (drop at text)) (b ∷ []), ← d.valued);
        }
