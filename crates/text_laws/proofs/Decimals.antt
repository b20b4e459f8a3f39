-- Proves facts of decimals. One more digit makes a number ten times as large, plus the digit (decimal-next), so digits behind a number are
-- the decimal of their value.
-- Assumes nothing.
use Prim.Native.Nat.{ℕ, zero, suc, ◌+◌, ◌-◌, ◌*◌, ◌/◌, ◌%◌, ◌^◌, ◌<◌, ◌≤◌}
use mathlib.Core.Path.{◌≡◌, refl, sym, ap, ◌∙◌}
use mathlib.Core.Logic.{◌⊎◌, inl, inr, ◌↔◌}
use mathlib.Core.Bool.{true}
use mathlib.Core.List.{List, [], ◌∷◌, ◌++◌, append_assoc, append-nil}
use native.Mathlib.Omega.{arith}
use native.Mathlib.Nat.{mul-le-mul_right}
use lib.ListN.{length}
use borrow.Author.Tests.{lt-ltb, le-ltb, le-leb, leb-true}
use Rattle.papers.specs.Lists.{every}
use Rattle.papers.specs.Text.{digit, is_decimal_digit, value_of, digits_of, decimal_of}
use Rattle.list_laws.proofs.Tests.{below_or, strong, and-iff}
use Rattle.text_laws.specs.Grammar.{All, DigitByte}
use Rattle.text_laws.proofs.Parts.{all_append, all_map, every-iff}

-- ---- the digits of a number

digits-small : (f x : ℕ) → x < 10 → digits_of (suc f) x ≡ digit x ∷ []
unfolding digits_of
digits-small f x h = rw (lt-ltb x 10 h, digits_of)

digits_more : (f x : ℕ) → 10 ≤ x → digits_of (suc f) x ≡ digits_of f (x / 10) ++ (digit (x % 10) ∷ [])
unfolding digits_of
digits_more f x h = rw (le-ltb x 10 h, digits_of)

-- with enough fuel, more fuel changes nothing
digits-fuel : (f g x : ℕ) → x ≤ f → x ≤ g → digits_of f x ≡ digits_of g x
unfolding digits_of
digits-fuel zero zero x a b = refl
digits-fuel zero (suc g) x a b = let e : x % 10 ≡ x = omega arith in rw (digits-small g x (omega arith), e)
digits-fuel (suc f) zero x a b = let e : x % 10 ≡ x = omega arith in rw (digits-small f x (omega arith), e)
digits-fuel (suc f) (suc g) x a b = go (below_or x 10) (digits-fuel f g (x / 10))
  where
    go : (x < 10) ⊎ (10 ≤ x) → (x / 10 ≤ f → x / 10 ≤ g → digits_of f (x / 10) ≡ digits_of g (x / 10)) → digits_of (suc f) x ≡ digits_of (suc g) x
    go (inl l) ih = digits-small f x l ∙ sym (digits-small g x l)
    go (inr l) ih = rw (digits_more f x l, digits_more g x l, ih (omega arith) (omega arith))

module _ (x : ℕ) where
  -- a number below ten is one digit; any other is the digits of its tenth, then its last digit
  pub decimal-small : x < 10 → decimal_of x ≡ digit x ∷ []
  unfolding decimal_of
  decimal-small h = digits-fuel x (suc x) x (omega arith) (omega arith) ∙ digits-small x x h

  pub decimal-more : 10 ≤ x → decimal_of x ≡ decimal_of (x / 10) ++ (digit (x % 10) ∷ [])
  unfolding decimal_of
  decimal-more h =
      digits-fuel x (suc x) x (omega arith) (omega arith) ∙ digits_more x x h
      ∙ ap (λ (l : List ℕ). l ++ (digit (x % 10) ∷ [])) (digits-fuel x (x / 10) (x / 10) (omega arith) (omega arith))

-- the decimal of a number with one more digit
pub decimal-next : (v k : ℕ) → 1 ≤ v → k < 10 → decimal_of (10 * v + k) ≡ decimal_of v ++ (digit k ∷ [])
decimal-next v k h l =
    let a : (10 * v + k) / 10 ≡ v = omega arith in
    let b : (10 * v + k) % 10 ≡ k = omega arith in
    decimal-more (10 * v + k) (omega arith) ∙ rw (a, b)

-- induction: what holds of one digit, and of a digit behind what it holds of, holds of every decimal
pub decimal-each : (P : ℕ → List ℕ → Type 0) → ((x : ℕ) → x < 10 → P x (digit x ∷ []))
    → ((x : ℕ) → 10 ≤ x → P (x / 10) (decimal_of (x / 10)) → P x (decimal_of (x / 10) ++ (digit (x % 10) ∷ []))) → (x : ℕ) → P x (decimal_of x)
decimal-each P small more = strong (λ x. P x (decimal_of x)) (λ x ih. go x ih (below_or x 10))
  where
    go : (x : ℕ) → ((m : ℕ) → m < x → P m (decimal_of m)) → (x < 10) ⊎ (10 ≤ x) → P x (decimal_of x)
    go x ih (inl l) = rw (decimal-small x l) (small x l)
    go x ih (inr l) = rw (decimal-more x l) (more x l (ih (x / 10) (omega arith)))

-- ---- digits

pub digit-iff : (b : ℕ) → (is_decimal_digit b ≡ true) ↔ DigitByte b
unfolding is_decimal_digit
digit-iff b =
    let i = and-iff _ _ in
    (λ e. (leb-true (digit 0) b (i.0 e).0, leb-true b (digit 9) (i.0 e).1), λ h. i.1 (le-leb (digit 0) b h.0, le-leb b (digit 9) h.1))

pub digits-iff : (w : List ℕ) → (every is_decimal_digit w ≡ true) ↔ All DigitByte w
digits-iff w =
    let i = every-iff is_decimal_digit w in
    (λ e. all_map (λ x. (digit-iff x).0) w (i.0 e), λ p. i.1 (all_map (λ x. (digit-iff x).1) w p))

pub decimal-digits : (x : ℕ) → All DigitByte (decimal_of x)
decimal-digits =
    decimal-each (λ x w. All DigitByte w) (λ x l. (omega arith, tt)) (λ x l ih. all_append DigitByte (decimal_of (x / 10)) (digit (x % 10) ∷ []) ih
    (omega arith, tt))

-- ---- values

pub value-append : (v : ℕ) (xs ys : List ℕ) → value_of v (xs ++ ys) ≡ value_of (value_of v xs) ys
unfolding value_of
value-append v [] ys = refl
value-append v (x ∷ xs) ys = value-append (10 * v + (x - digit 0)) xs ys

-- a decimal is read back as its number
pub decimal-value : (x : ℕ) → value_of 0 (decimal_of x) ≡ x
unfolding value_of
decimal-value =
    decimal-each (λ x w. value_of 0 w ≡ x) (λ x l. omega arith) (λ x l ih. rw (value-append 0 (decimal_of (x / 10)) (digit (x % 10) ∷ []), ih)
    (omega arith))

pub decimal_injective : (x y : ℕ) → decimal_of x ≡ decimal_of y → x ≡ y
decimal_injective x y e = sym (decimal-value x) ∙ ap (value_of 0) e ∙ decimal-value y

-- digits behind a number are the decimal of their value
pub digits-behind : (v : ℕ) (ds : List ℕ) → 1 ≤ v → All DigitByte ds → decimal_of (value_of v ds) ≡ decimal_of v ++ ds
unfolding value_of
digits-behind v [] h p = sym (append-nil (decimal_of v))
digits-behind v (d ∷ ds) h p =
    let low = p.0.0 in
    let high = p.0.1 in
    let e : digit (d - digit 0) ≡ d = omega arith in
    digits-behind (10 * v + (d - digit 0)) ds (omega arith) p.1 ∙ rw (decimal-next v (d - digit 0) h (omega arith), e)
    (append_assoc (decimal_of v) (d ∷ []) ds)

pub value-below : (v : ℕ) (ds : List ℕ) → All DigitByte ds → value_of v ds < (v + 1) * 10 ^ length ds
unfolding value_of
value-below v [] p = omega arith
value-below v (d ∷ ds) p =
    let high = p.0.1 in
    let ih = value-below (10 * v + (d - digit 0)) ds p.1 in
    let step = mul-le-mul_right {m = 10 * v + (d - digit 0) + 1} {n = (v + 1) * 10} (10 ^ length ds) (omega arith) in
    let e : 10 ^ suc (length ds) ≡ 10 * 10 ^ length ds = omega arith in
    rw e (omega arith)
