-- Proves what an answer tells of the text: the number at a place, or that a line that begins there has none.
-- Assumes nothing.
use Rattle.std.proofs.Common.{ℕ, ◌≡◌, sym, ap, ◌∙◌, List, [], ◌∷◌, arith, drop}
use Rattle.papers.specs.Text.{newline, space, after_lines, numbers_at}
use Rattle.text_laws.specs.Grammar.{behind}
use Rattle.text_laws.proofs.ByWords.{numbers-last, numbers-next, after_last, after_next}
use Rattle.text_words.specs.Words.{LineTo, DecimalAt}

-- a space follows the number, and then the rest of the line
module _ {text : List ℕ} {at x next : ℕ} (n : DecimalAt text at space x next) where
  pub more_numbers : numbers_at (drop at text) 1 ≡ behind (x ∷ []) (numbers_at (drop next text) 1)
  more_numbers = ap (λ (t : List ℕ). numbers_at t 1) n.stands ∙ numbers-next x n.short (drop next text)

  pub more-after : after_lines 1 (drop next text) ≡ after_lines 1 (drop at text)
  more-after = sym (ap (after_lines 1) n.stands ∙ after_next x n.short (drop next text))

  pub line-behind : {end : ℕ} → LineTo text next end → LineTo text at end
  line-behind l = let a = n.on in let b = l.on in record { rest = l.rest ∙ more-after; on = omega arith; inside = l.inside }

-- a newline follows the number and ends the line
module _ {text : List ℕ} {at x next : ℕ} (n : DecimalAt text at newline x next) where
  pub last-numbers : numbers_at (drop at text) 1 ≡ x ∷ []
  last-numbers = ap (λ (t : List ℕ). numbers_at t 1) n.stands ∙ numbers-last x n.short (drop next text)

  pub line-ends : LineTo text at next
  line-ends = record { rest = sym (ap (after_lines 1) n.stands ∙ after_last x n.short (drop next text)); on = n.on; inside = n.inside }
