-- Proves that a line can be read word by word. Behind a number and a space come the numbers of the rest of the line; behind a number and a
-- newline there are no more; a line that begins with neither has none. The first word of a printed line is determined, so each case has one
-- outcome.
-- Assumes nothing.
use Prim.Native.Nat.{ℕ}
use mathlib.Core.Path.{◌≡◌, refl, sym, ap, ◌∙◌}
use mathlib.Core.Logic.{◌↔◌, inl, inr}
use mathlib.Core.List.{List, [], ◌∷◌, ◌++◌, append_assoc}
use native.Mathlib.Omega.{arith}
use Rattle.papers.specs.Text.{newline, space, after_lines, numbers_at, decimal_of, printed}
use Rattle.text_laws.specs.Grammar.{All, DigitByte, Short, Ends, behind}
use Rattle.text_laws.proofs.Parts.{all_map, split}
use Rattle.text_laws.proofs.Decimals.{decimal-digits, decimal_injective}
use Rattle.text_laws.proofs.Lines.{after_line, after-part}
use Rattle.text_laws.proofs.Numbers.{numbers-iff, no-cons}

-- the first line of a text
pub first-line-iff : (t : List ℕ) (x : ℕ) (xs : List ℕ)
    → (numbers_at t 1 ≡ x ∷ xs) ↔ ((rest : List ℕ) × (t ≡ printed (decimal_of x) xs ++ rest) × All Short (x ∷ xs))
unfolding after_lines
first-line-iff t x xs = numbers-iff t 1 x xs

-- ---- the rest of a line, behind the numbers that were read

pub behind-none : (l : List ℕ) → behind [] l ≡ l
unfolding behind
behind-none [] = refl
behind-none (y ∷ ys) = refl

pub behind_more : (xs zs l : List ℕ) → behind xs (behind zs l) ≡ behind (xs ++ zs) l
unfolding behind
behind_more xs zs [] = refl
behind_more xs [] (y ∷ ys) = sym (append_assoc xs [] (y ∷ ys))
behind_more xs (z ∷ zs) (y ∷ ys) = sym (append_assoc xs (z ∷ zs) (y ∷ ys))

-- ---- a number before a byte that ends it

printed-last : (x : ℕ) (rest : List ℕ) → printed (decimal_of x) [] ++ rest ≡ decimal_of x ++ (newline ∷ rest)
unfolding printed
printed-last x rest = append_assoc (decimal_of x) (newline ∷ []) rest

printed-more : (x y : ℕ) (ys rest : List ℕ) → printed (decimal_of x) (y ∷ ys) ++ rest ≡ decimal_of x ++ (space ∷ (printed (decimal_of y) ys ++ rest))
unfolding printed
printed-more x y ys rest = append_assoc (decimal_of x) (space ∷ printed (decimal_of y) ys) rest

pub no_digit : (b : ℕ) → Ends b → ¬ DigitByte b
no_digit b (inl e) d = omega arith
no_digit b (inr e) d = omega arith

-- the first number is determined, and so is what follows
pub first-fixed : (x y b c : ℕ) (u v : List ℕ) → Ends b → Ends c → decimal_of x ++ (b ∷ u) ≡ decimal_of y ++ (c ∷ v) → (x ≡ y) × (b ≡ c) × (u ≡ v)
first-fixed x y b c u v p q e =
    let (w, f, g) = split DigitByte (decimal_of x) (decimal_of y) b c u v (decimal-digits x) (decimal-digits y) (no_digit b p) (no_digit c q) e in
    (decimal_injective x y w, f, g)

-- the first number of a line is followed by such a byte
pub first-number : (t : List ℕ) (x : ℕ) (xs : List ℕ) → numbers_at t 1 ≡ x ∷ xs
    → (b : ℕ) × (rest : List ℕ) × Ends b × Short x × (t ≡ decimal_of x ++ (b ∷ rest))
first-number t x xs e = go xs ((first-line-iff t x xs).0 e)
  where
    go : (xs : List ℕ) → (rest : List ℕ) × (t ≡ printed (decimal_of x) xs ++ rest) × All Short (x ∷ xs)
        → (b : ℕ) × (rest : List ℕ) × Ends b × Short x × (t ≡ decimal_of x ++ (b ∷ rest))
    go [] h = (newline, h.0, inr refl, h.2.0, h.1 ∙ printed-last x h.0)
    go (y ∷ ys) h = (space, printed (decimal_of y) ys ++ h.0, inl refl, h.2.0, h.1 ∙ printed-more x y ys h.0)

module _ (x : ℕ) (s : Short x) where
  -- one more word, and it is the last
  pub numbers-last : (rest : List ℕ) → numbers_at (decimal_of x ++ (newline ∷ rest)) 1 ≡ x ∷ []
  numbers-last rest = (first-line-iff _ x []).1 (rest, sym (printed-last x rest), (s, tt))

  pub numbers-next : (t : List ℕ) → numbers_at (decimal_of x ++ (space ∷ t)) 1 ≡ behind (x ∷ []) (numbers_at t 1)
  unfolding behind
  numbers-next t = go (numbers_at t 1) refl
    where
      none : (l : List ℕ) → numbers_at (decimal_of x ++ (space ∷ t)) 1 ≡ l → numbers_at t 1 ≡ [] → l ≡ []
      none [] e z = refl
      none (y ∷ []) e z =
          let (rest, f, small) = (first-line-iff _ y []).0 e in
          let q = (first-fixed x y space newline t rest (inl refl) (inr refl) (f ∙ printed-last y rest)).1 in
          absurd (omega arith)
      none (y ∷ w ∷ ws) e z =
          let (rest, f, small) = (first-line-iff _ y (w ∷ ws)).0 e in
          let q = (first-fixed x y space space t (printed (decimal_of w) ws ++ rest) (inl refl) (inl refl) (f ∙ printed-more y w ws rest)).2 in
          absurd (no-cons (sym z ∙ (first-line-iff t w ws).1 (rest, q, small.1)))

      go : (l : List ℕ) → numbers_at t 1 ≡ l → numbers_at (decimal_of x ++ (space ∷ t)) 1 ≡ behind (x ∷ []) (numbers_at t 1)
      go [] e = rw e (none _ refl e)
      go (y ∷ ys) e =
          let (rest, f, small) = (first-line-iff t y ys).0 e in
          rw e ((first-line-iff _ x (y ∷ ys)).1 (rest, ap (λ (l : List ℕ). decimal_of x ++ (space ∷ l)) f ∙ sym (printed-more x y ys rest), (s, small)))

  -- the text behind the line
  pub after_last : (rest : List ℕ) → after_lines 1 (decimal_of x ++ (newline ∷ rest)) ≡ rest
  after_last rest = after_line (decimal_of x) rest (all_map (λ b d n. omega arith) (decimal_of x) (decimal-digits x))

  pub after_next : (t : List ℕ) → after_lines 1 (decimal_of x ++ (space ∷ t)) ≡ after_lines 1 t
  after_next t =
      after-part (decimal_of x) (space ∷ t) (all_map (λ b d n. omega arith) (decimal_of x) (decimal-digits x)) ∙ after-part (space ∷ []) t
      (λ n. omega arith, tt)
