-- Defines what is read of the lines of rows of a job text, and what is kept of them. Rows are kept narrowed. After a refusal it promises nothing of
-- the slices.
-- Assumes nothing.
use Rattle.std.specs.Prelude.{ℕ, ◌<◌, ◌≤◌, ◌≡◌, false, Result, Ok, Err, List, [], ◌∷◌, map, length}
use Rattle.std.proofs.lemmas.List.Edits.{sets}
use Rattle.papers.specs.Bounds.{program_columns}
use Rattle.papers.specs.Lists.{flat, starts_counted_from}
use Rattle.papers.specs.Refusals.{passed, refused, first}
use Rattle.papers.specs.Text.{Input, head_of_text, text_lists, bad_line, text_after}
use Rattle.text_words.specs.Words.{LineTo}
use Rattle.text_lines.specs.Narrowed.{narrowed}
use Rattle.refusals.specs.declared.Fault.{Fault}
use Rattle.refusals.specs.Answers.{answer_refusing, refused_without_count}

-- the lists of a text's columns
abbrev pub lists_of_columns : List ℕ → List (List ℕ)
lists_of_columns text = text_lists text (head_of_text text).head.n

-- a text that does not continue
abbrev pub whole : List ℕ → Input
whole text = record { text = text; more = false }

-- the lines of rows are read behind line 1, which gives n, and starts has a place for the start of each column
pub record LinesAsked (text : List ℕ) (at n : ℕ) (starts : List ℕ) : Type 0 where
  pub begins : LineTo text 0 at
  pub size : n ≡ (head_of_text text).head.n
  pub few : n ≤ program_columns
  pub long : program_columns < length starts

-- all lines of rows are read, and nothing stands behind them: `count` rows, which are kept with their starts
pub record AllLines (text starts₀ rows₀ starts rows : List ℕ) (count : ℕ) : Type 0 where
  pub counted : count ≡ length (flat (lists_of_columns text))
  pub passes : first (bad_line ∷ text_after ∷ []) (whole text) ≡ passed
  pub started : starts ≡ sets starts₀ 0 (starts_counted_from 0 (lists_of_columns text))
  pub kept : rows ≡ sets rows₀ 0 (map narrowed (flat (lists_of_columns text)))

-- the tests of the lines and of the end give this fault
pub record LinesRefuse (text : List ℕ) (fault : Fault) : Type 0 where
  pub refuses : first (bad_line ∷ text_after ∷ []) (whole text) ≡ refused (answer_refusing (refused_without_count fault))

-- what is told of the lines of rows and of the end
abbrev pub LinesTold : List ℕ → List ℕ → List ℕ → List ℕ → List ℕ → Result ℕ Fault → Type 0
LinesTold text starts₀ rows₀ starts rows (Ok count) = AllLines text starts₀ rows₀ starts rows count
LinesTold text starts₀ rows₀ starts rows (Err fault) = LinesRefuse text fault
