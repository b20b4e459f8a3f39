-- Proves how line 1 is read number by number: after a space the rest of the line decides; at a newline two or three numbers are a head, and any other
-- count is none.
-- Assumes nothing.
use Rattle.std.proofs.Common.{ℕ, ◌≡◌, refl, ap, ◌∙◌, false, Option, None, Some, List, [], ◌∷◌, ◌++◌, drop}
use Rattle.papers.specs.declared.JobHead.{JobHead}
use Rattle.papers.specs.Bounds.{default_mark}
use Rattle.papers.specs.Text.{newline, space, numbers_at, head_of}
use Rattle.text_laws.specs.Grammar.{behind}
use Rattle.text_laws.proofs.ByWords.{behind_more}
use Rattle.text_words.specs.Words.{DecimalAt, NoNumbers}
use Rattle.text_head.specs.Heads.{HeadAt, NoHead, HeadTold}
use Rattle.text_words.proofs.Told.{more_numbers, line-behind, last-numbers, line-ends}

-- bad text
pub head-bad : {text read : List ℕ} {at : ℕ} → NoNumbers text at → NoHead text read at
unfolding behind head_of
head-bad e = record { bad = rw e.none }

module _ {text : List ℕ} {at x next : ℕ} (n : DecimalAt text at newline x next) where
  -- n alone is too few
  pub head-one : NoHead text [] at
  unfolding behind head_of
  head-one = record { bad = rw (last-numbers n) }

  -- n and limit
  pub head-two : (columns : ℕ) → HeadAt text (columns ∷ []) at (record { n = columns; mark = default_mark; limit = x }) next
  unfolding behind head_of
  head-two columns = record { is = rw (last-numbers n); ends = line-ends n }

  -- n, limit and mark
  pub head_three : (columns limit : ℕ) → HeadAt text (columns ∷ limit ∷ []) at (record { n = columns; mark = x; limit = limit }) next
  unfolding behind head_of
  head_three columns limit = record { is = rw (last-numbers n); ends = line-ends n }

module _ {text : List ℕ} {at x next : ℕ} (n : DecimalAt text at space x next) where
  -- more than three numbers are too many
  pub head-four : (columns limit : ℕ) → NoHead text (columns ∷ limit ∷ []) at
  unfolding behind head_of
  head-four columns limit = record { bad = rw (more_numbers n) (none (numbers_at (drop next text) 1)) }
    where
      none : (l : List ℕ) → (head_of (behind (columns ∷ limit ∷ []) (behind (x ∷ []) l))).fine ≡ false
      none [] = refl
      none (y ∷ ys) = refl

  -- the rest of the line decides
  further : (read : List ℕ) → behind read (numbers_at (drop at text) 1) ≡ behind (read ++ (x ∷ [])) (numbers_at (drop next text) 1)
  further read = ap (behind read) (more_numbers n) ∙ behind_more read (x ∷ []) (numbers_at (drop next text) 1)

  pub head-further : (read : List ℕ) (r : Option (JobHead × ℕ)) → HeadTold text (read ++ (x ∷ [])) next r → HeadTold text read at r
  head-further read (Some (head, end)) h = record { is = ap head_of (further read) ∙ h.is; ends = line-behind n h.ends }
  head-further read None h = record { bad = ap (λ (l : List ℕ). (head_of l).fine) (further read) ∙ h.bad }
