-- Defines what is read and kept of a column's rows. A store past the end of a slice stores nothing, so what is kept does not depend on whether all
-- rows fit.
-- Assumes nothing.
use Rattle.std.specs.Prelude.{ℕ, ◌+◌, ◌-◌, ◌*◌, ◌≤◌, ◌≡◌, List, length, Option, IfSome}
use Rattle.std.proofs.lemmas.List.Edits.{sets}
use Rattle.papers.specs.Bounds.{max_columns}
use Rattle.papers.specs.Numbers.{got, onto}
use Rattle.papers.specs.Key.{rows_read_from}

-- ---- what the readers require

-- at most so many short gaps are read behind row b, from a place within the plan
pub record ShortAsked (plan : List ℕ) (at b left : ℕ) : Type 0 where
  pub inside : at ≤ length plan
  pub low : b ≤ max_columns
  pub few : left ≤ max_columns

-- the list of column j is read from a place within the plan, and kept from place t on, which is not behind that place
pub record ListAsked (plan : List ℕ) (at n j t : ℕ) : Type 0 where
  pub inside : at ≤ length plan
  pub few : n ≤ max_columns
  pub column : j ≤ n
  pub behind : t ≤ at

-- the same for a list whose count is read
pub record RowsAsked (plan : List ℕ) (at n j count t : ℕ) : Type 0 where
  pub inside : at ≤ length plan
  pub few : n ≤ max_columns
  pub column : j ≤ n
  pub behind : t ≤ at
  pub counted : count ≤ max_columns

-- ---- what is read

-- so many short gaps can be read without testing for an end
pub record MostShort (left bytes t room most : ℕ) : Type 0 where
  pub wanted : most ≤ left
  pub there : most ≤ bytes
  pub kept : most ≤ room - t

-- Rows of a column read and kept so far: those read, up to `last`, and the `left` ones that follow from k on, which go to the places from
-- total on, are together the `count` rows behind row j, which begin at `at` and go to the places from t on.
pub record RowsRead (n : ℕ) (s : List ℕ) (j count at t : ℕ) (rows₀ rows : List ℕ) (k last left total : ℕ) : Type 0 where
  pub list : List ℕ
  pub whole : onto list (rows_read_from n last left s k) ≡ rows_read_from n j count s at
  pub counted : left + length list ≡ count
  pub placed : total ≡ t + length list
  pub paced : at + length list ≤ k
  pub inside : k ≤ length s
  pub high : last ≤ n
  pub kept : rows ≡ sets rows₀ t list

-- Rows of short gaps kept so far: `count` rows behind row b, up to `last`; if `last` does not exceed n, they are the rows read for n
-- columns.
pub record ShortRead (s : List ℕ) (b left at t : ℕ) (rows₀ rows : List ℕ) (count last : ℕ) : Type 0 where
  pub list : List ℕ
  pub many : length list ≡ count
  pub few : count ≤ left
  pub kept : rows ≡ sets rows₀ t list
  pub grows : last ≤ b + 128 * count
  pub read : (n : ℕ) → last ≤ n → RowsRead n s b left at t rows₀ rows (at + count) last (left - count) (t + count)

-- Rows read quickly: the rows kept are no more than the list has, and if a place is answered they are the whole list, and it is the place
-- behind it.
pub record QuickRead (n : ℕ) (s : List ℕ) (j count at t : ℕ) (rows₀ rows : List ℕ) (r : Option ℕ) : Type 0 where
  pub list : List ℕ
  pub few : length list ≤ count
  pub kept : rows ≡ sets rows₀ t list
  pub whole : IfSome r (λ next. rows_read_from n j count s at ≡ got list next)
  pub many : IfSome r (λ next. length list ≡ count)
