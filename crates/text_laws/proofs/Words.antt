-- Proves that a line is its words with one space between, and that its words are the parts between its spaces.
-- Assumes nothing.
use Prim.Native.Nat.{ℕ}
use mathlib.Core.Path.{◌≡◌, refl, sym, ap, ◌∙◌}
use mathlib.Core.List.{List, [], ◌∷◌, ◌++◌, append_assoc, map}
use lib.Dec.{eqb}
use borrow.Author.Tests.{eqb-true, eqb-false, eq-eqb, ne_eqb}
use Rattle.papers.specs.Text.{newline, space, on_word, words_of, decimal_of, printed}
use Rattle.list_laws.proofs.Tests.{Test, passes, fails, test}
use Rattle.text_laws.specs.Grammar.{All, InWord, spaced}

words-here : (b : ℕ) (bs : List ℕ) → b ≡ space → words_of (b ∷ bs) ≡ [] ∷ words_of bs
unfolding words_of
words-here b bs e = rw (eq-eqb b space e, words_of)

words-later : (b : ℕ) (bs : List ℕ) → InWord b → words_of (b ∷ bs) ≡ on_word b (words_of bs)
unfolding words_of
words-later b bs n = rw (ne_eqb b space n, words_of)

-- the words of a single word, and of a word before others
words-one : (w : List ℕ) → All InWord w → words_of w ≡ w ∷ []
unfolding words_of on_word
words-one [] p = refl
words-one (b ∷ w) p = words-later b w p.0 ∙ ap (on_word b) (words-one w p.1)

words_more : (w t : List ℕ) → All InWord w → words_of (w ++ (space ∷ t)) ≡ w ∷ words_of t
unfolding on_word
words_more [] t p = words-here space t refl
words_more (b ∷ w) t p = words-later b (w ++ (space ∷ t)) p.0 ∙ ap (on_word b) (words_more w t p.1)

pub words-spaced : (w : List ℕ) (ws : List (List ℕ)) → All InWord w → All (All InWord) ws → words_of (spaced w ws) ≡ w ∷ ws
words-spaced w [] p q = words-one w p
words-spaced w (v ∷ vs) p q = words_more w (spaced v vs) p ∙ ap (λ (l : List (List ℕ)). w ∷ l) (words-spaced v vs q.0 q.1)

-- a line has a first word, and is its words with one space between
pub record Line (l : List ℕ) : Type 0 where
  pub word : List ℕ
  pub words : List (List ℕ)
  pub are : words_of l ≡ word ∷ words
  pub makes : l ≡ spaced word words

pub line-words : (l : List ℕ) → Line l
unfolding words_of on_word
line-words [] = record { word = []; words = []; are = refl; makes = refl }
line-words (b ∷ bs) = go (test (eqb b space)) (line-words bs)
  where
    on : (w : List ℕ) (ws : List (List ℕ)) → b ∷ spaced w ws ≡ spaced (b ∷ w) ws
    on w [] = refl
    on w (v ∷ vs) = refl

    go : Test (eqb b space) → Line bs → Line (b ∷ bs)
    go (passes p) k =
        let e = eqb-true b space p in
        record {
          word = [];
          words = k.word ∷ k.words;
          are = words-here b bs e ∙ ap (λ (l : List (List ℕ)). [] ∷ l) k.are;
          makes = rw (e, ← k.makes);
        }
    go (fails p) k =
        record {
          word = b ∷ k.word;
          words = k.words;
          are = words-later b bs (eqb-false b space p) ∙ ap (on_word b) k.are;
          makes = ap (λ (l : List ℕ). b ∷ l) k.makes ∙ on k.word k.words;
        }

-- what is printed is words with one space between, and then a newline
pub printed-spaced : (w xs : List ℕ) → printed w xs ≡ spaced w (map decimal_of xs) ++ (newline ∷ [])
unfolding printed
printed-spaced w [] = refl
printed-spaced w (x ∷ xs) =
    rw (printed-spaced (decimal_of x) xs) (sym (append_assoc w (space ∷ spaced (decimal_of x) (map decimal_of xs)) (newline ∷ [])))
