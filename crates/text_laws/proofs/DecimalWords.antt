-- Proves that a word is a decimal exactly when it is the decimal of a number of at most 13 digits, and then that number is its value.
-- Assumes nothing.
use Prim.Native.Nat.{ℕ, zero, suc, ◌+◌, ◌-◌, ◌*◌, ◌/◌, ◌%◌, ◌^◌, ◌<◌, ◌≤◌}
use mathlib.Core.Path.{◌≡◌, refl, sym, ap}
use mathlib.Core.Logic.{◌⊎◌, inl, inr, ◌↔◌}
use mathlib.Core.Bool.{true}
use mathlib.Core.List.{List, [], ◌∷◌, ◌++◌}
use native.Mathlib.Omega.{arith}
use native.Mathlib.Nat.{pow-le-pow_right}
use lib.ListN.{length, length-append}
use borrow.Author.Tests.{le-leb, leb-true, eqb-false, ne_eqb, not-true}
use Rattle.papers.specs.Bounds.{max_digits}
use Rattle.papers.specs.Text.{digit, is_decimal_number, value_of, decimal_of}
use Rattle.list_laws.proofs.Tests.{below_or, true-false, and-iff}
use Rattle.text_laws.specs.Grammar.{Short, Decimal}
use Rattle.text_laws.proofs.Decimals.{decimal-small, decimal-more, decimal-each, digit-iff, digits-iff, decimal-digits}
use Rattle.text_laws.proofs.Decimals.{decimal-value, digits-behind, value-below}

-- the test of a word
pub decimal-word-iff : (w : List ℕ) → (is_decimal_number w ≡ true) ↔ Decimal w
unfolding is_decimal_number
decimal-word-iff [] = (λ e. absurd (true-false e refl), λ h. absurd (let l = h.some in omega arith))
decimal-word-iff (d ∷ []) = (
  λ e. record { digits = ((digit-iff d).0 e, tt); some = omega arith; few = omega arith; lead = λ l. absurd (omega arith) },
  λ h. (digit-iff d).1 h.digits.0,
)
decimal-word-iff (d ∷ e ∷ ds) =
    let i = and-iff _ _ in
    let k = and-iff _ _ in
    let digits = digits-iff (d ∷ e ∷ ds) in (
      λ q.
          let (p, o) = i.0 q in
          let (a, z) = k.0 p in
          record { digits = digits.0 a; some = omega arith; few = leb-true _ _ o; lead = λ l. eqb-false d (digit 0) (not-true _ z) },
      λ h. i.1 (k.1 (digits.1 h.digits, rw (ne_eqb d (digit 0) (h.lead (omega arith)))), le-leb _ _ h.few),
    )

-- how many digits a number has
pub length-decimal : (k x : ℕ) → x < 10 ^ suc k → length (decimal_of x) ≤ suc k
length-decimal zero x h = rw (decimal-small x (omega arith)) (omega arith)
length-decimal (suc k) x h = go (below_or x 10) (length-decimal k (x / 10))
  where
    go : (x < 10) ⊎ (10 ≤ x) → (x / 10 < 10 ^ suc k → length (decimal_of (x / 10)) ≤ suc k) → length (decimal_of x) ≤ suc (suc k)
    go (inl l) ih = rw (decimal-small x l) (omega arith)
    go (inr l) ih = rw (decimal-more x l) (omega (arith, length-append (decimal_of (x / 10)) (digit (x % 10) ∷ []), ih (omega arith)))

-- a decimal has a first digit, and this is 0 in the decimal of 0 only
record First (x : ℕ) (w : List ℕ) : Type 0 where
  head : ℕ
  tail : List ℕ
  parts : w ≡ head ∷ tail
  zero-alone : 1 ≤ x → digit 0 < head
  alone : x < 10 → tail ≡ []

first : (x : ℕ) → First x (decimal_of x)
first =
    decimal-each First
    (λ x l. record { head = digit x; tail = []; parts = refl; zero-alone = λ h. omega arith; alone = λ h. refl })
    (λ x l ih. record {
      head = ih.head;
      tail = ih.tail ++ (digit (x % 10) ∷ []);
      parts = rw ih.parts;
      zero-alone = λ h. ih.zero-alone (omega arith);
      alone = λ h. absurd (omega arith);
    })

-- the decimal of a number of at most 13 digits passes the test
pub decimal-is : (x : ℕ) → Short x → Decimal (decimal_of x)
decimal-is x h =
    let f = first x in
    let e = f.parts in
    let l = ap length e in
    record {
      digits = decimal-digits x;
      some = omega arith;
      few = length-decimal (max_digits - 1) x h;
      lead = λ m. rw e (λ z. lead f (omega arith) z (below_or x 10));
    }
  where
    lead : (f : First x (decimal_of x)) → 0 < length f.tail → f.head ≡ digit 0 → (x < 10) ⊎ (10 ≤ x) → ⊥
    lead f l z (inl s) = omega (arith, ap length (f.alone s))
    lead f l z (inr s) = omega (arith, f.zero-alone (omega arith))

-- a word that passes the test is the decimal of its value
pub is-decimal : (w : List ℕ) → Decimal w → (w ≡ decimal_of (value_of 0 w)) × Short (value_of 0 w)
unfolding value_of
is-decimal [] h = absurd (let l = h.some in omega arith)
is-decimal (d ∷ []) h =
    let low = h.digits.0.0 in
    let high = h.digits.0.1 in
    let q : digit (10 * 0 + (d - digit 0)) ≡ d = omega arith in
    (rw (decimal-small (10 * 0 + (d - digit 0)) (omega arith), q), omega arith)
is-decimal (d ∷ c ∷ ds) h =
    let low = h.digits.0.0 in
    let high = h.digits.0.1 in
    let n = h.lead (omega arith) in
    let z : 10 * 0 + (d - digit 0) ≡ d - digit 0 = omega arith in
    let q : digit (d - digit 0) ≡ d = omega arith in
    let grow = pow-le-pow_right {n = 10} (omega arith) h.few in
    let below = value-below 0 (d ∷ c ∷ ds) h.digits in (
      sym (rw z (rw (decimal-small (d - digit 0) (omega arith), q) at (digits-behind (d - digit 0) (c ∷ ds) (omega arith) h.digits.1))),
      omega arith,
    )

-- a word is a decimal of value x exactly when it is the decimal of x, of at most 13 digits
pub decimal-iff : (w : List ℕ) (x : ℕ) → ((is_decimal_number w ≡ true) × (value_of 0 w ≡ x)) ↔ ((w ≡ decimal_of x) × (Short x))
decimal-iff w x =
    let i = decimal-word-iff w in
    (λ h. rw (← h.1) (is-decimal w (i.0 h.0)), λ h. rw h.0 ((decimal-word-iff (decimal_of x)).1 (decimal-is x h.1), decimal-value x))
