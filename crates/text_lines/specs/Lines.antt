-- Defines what is read of a line of rows, and what is kept of it, which does not depend on whether all rows fit: a store past the end of a slice
-- stores nothing. For a bad line it promises nothing of what is kept.
-- Assumes nothing.
use Rattle.std.specs.Prelude.{ℕ, ◌+◌, ◌<◌, ◌≤◌, ◌≡◌, false, Option, None, Some, List, ◌∷◌, map, length, drop}
use Rattle.std.proofs.lemmas.List.Edits.{sets}
use Rattle.papers.specs.Text.{numbers_at, is_row_line}
use Rattle.text_words.specs.Words.{LineTo, NoNumbers}
use Rattle.text_lines.specs.Narrowed.{narrowed}

-- rows are read from a place within the text, and kept from place t on, which is not behind that place
pub record LineAsked (text : List ℕ) (at t : ℕ) : Type 0 where
  pub inside : at ≤ length text
  pub behind : t ≤ at

-- `count` numbers stand from `at` to the end of the line, and are kept from place t on; next is the place behind the line
pub record RowsAt (text : List ℕ) (at t : ℕ) (rows₀ rows : List ℕ) (count next : ℕ) : Type 0 where
  pub list : List ℕ
  pub counted : count ≡ length list
  pub numbers : numbers_at (drop at text) 1 ≡ list
  pub some : 0 < count
  pub ends : LineTo text at next
  pub paced : at + count ≤ next
  pub kept : rows ≡ sets rows₀ t (map narrowed list)

-- the numbers from `at` to the end of the line, kept from place t on; or no rows
abbrev pub RowsTold : List ℕ → ℕ → ℕ → List ℕ → List ℕ → Option (ℕ × ℕ) → Type 0
RowsTold text at t rows₀ rows (Some (count, next)) = RowsAt text at t rows₀ rows count next
RowsTold text at t rows₀ rows None = NoNumbers text at

-- a line of `count` rows stands at `at`, and they are kept from place t on; next is the place behind the line
pub record RowLine (text : List ℕ) (at t : ℕ) (rows₀ rows : List ℕ) (count next : ℕ) : Type 0 where
  pub list : List ℕ
  pub counted : count ≡ length list
  pub numbers : numbers_at (drop at text) 1 ≡ length list ∷ list
  pub ends : LineTo text at next
  pub paced : at + count ≤ next
  pub kept : rows ≡ sets rows₀ t (map narrowed list)

-- the line at `at` is no line of rows
pub record NoRowLine (text : List ℕ) (at : ℕ) : Type 0 where
  pub bad : is_row_line (numbers_at (drop at text) 1) ≡ false

-- the line of rows at `at`, its rows kept from place t on; or a bad line
abbrev pub LineTold : List ℕ → ℕ → ℕ → List ℕ → List ℕ → Option (ℕ × ℕ) → Type 0
LineTold text at t rows₀ rows (Some (count, next)) = RowLine text at t rows₀ rows count next
LineTold text at t rows₀ rows None = NoRowLine text at
