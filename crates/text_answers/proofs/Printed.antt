-- Proves that no two refusals print the same line, and that none prints what a listing prints: no word contains a byte that separates
-- words, and a listing begins with another word.
-- Assumes nothing.
use Prim.Native.Nat.{ℕ, ◌<◌}
use mathlib.Core.Path.{◌≡◌, refl}
use mathlib.Core.List.{List, [], ◌∷◌}
use native.Mathlib.Omega.{arith}
use Rattle.papers.specs.declared.Answer.{Answer}
use Rattle.papers.specs.Job.{Job}
use Rattle.papers.specs.Text.{newline, space, decimal_of, printed, word_refused, refusal_line, listing_of}
use Rattle.text_laws.specs.Grammar.{All}
use Rattle.text_laws.proofs.Parts.{all_map, split}
use Rattle.text_laws.proofs.Decimals.{decimal-digits, decimal_injective}

-- a byte above those that separate words
abbrev Letter : ℕ → Type 0
Letter b = space < b

abbrev Word : List ℕ → Type 0
Word w = All Letter w

decimal-word : (x : ℕ) → Word (decimal_of x)
decimal-word x = all_map (λ b d. let l = d.0 in omega arith) (decimal_of x) (decimal-digits x)

no-space : ¬ Letter space
no-space l = omega arith

no-newline : ¬ Letter newline
no-newline l = omega arith

printed-injective : (v w xs ys : List ℕ) → Word v → Word w → printed v xs ≡ printed w ys → (v ≡ w) × (xs ≡ ys)
unfolding printed
printed-injective v w [] [] p q e = ((split Letter v w newline newline [] [] p q no-newline no-newline e).0, refl)
printed-injective v w [] (y ∷ ys) p q e =
    let z = (split Letter v w newline space [] (printed (decimal_of y) ys) p q no-newline no-space e).1 in absurd (omega arith)
printed-injective v w (x ∷ xs) [] p q e =
    let z = (split Letter v w space newline (printed (decimal_of x) xs) [] p q no-space no-newline e).1 in absurd (omega arith)
printed-injective v w (x ∷ xs) (y ∷ ys) p q e =
    let (f, g, k) = split Letter v w space space (printed (decimal_of x) xs) (printed (decimal_of y) ys) p q no-space no-space e in
    let (d, r) = printed-injective (decimal_of x) (decimal_of y) xs ys (decimal-word x) (decimal-word y) k in
    let z = decimal_injective x y d in
    (f, cc)

-- ---- refusals and listings

-- the line of a refusal determines its answer
pub refusal-line-injective : (a b : Answer) → refusal_line a ≡ refusal_line b → a ≡ b
unfolding refusal_line
refusal-line-injective a b e =
    let q = (printed-injective word_refused word_refused (a.number ∷ a.place ∷ a.count ∷ []) (b.number ∷ b.place ∷ b.count ∷ []) refused-word
    refused-word e).1 in
    same (cc) (cc) (cc)
  where
    refused-word : Word word_refused
    refused-word = (omega arith, (omega arith, (omega arith, (omega arith, (omega arith, (omega arith, (omega arith, tt)))))))

    same : a.number ≡ b.number → a.place ≡ b.place → a.count ≡ b.count → a ≡ b
    same p q r i = record { number = p i; place = q i; count = r i }

-- a listing is not the line of a refusal
pub listing-no-refusal : (job : Job) (peak : ℕ) (a : Answer) → listing_of job peak ≡ refusal_line a → ⊥
unfolding listing_of refusal_line printed
listing-no-refusal job peak a e = let z : ◌≡◌ {A = ℕ} 112 114 = cc in omega arith
