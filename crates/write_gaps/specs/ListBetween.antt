-- Defines what the writers of a list's gaps require of its rows and of the place.
-- Assumes nothing.
use Rattle.std.specs.Prelude.{ℕ, ◌+◌, ◌-◌, ◌<◌, ◌≤◌, List, length}
use Rattle.std.proofs.Math.Seq.{slice}
use Rattle.papers.specs.Bounds.{max_columns}
use Rattle.papers.specs.Lists.{◌∈◌, Asc}

-- the rows from `from` up to `to` can be a list of column j: they ascend above j, and neither their number nor any of them exceeds
-- the greatest number of columns
pub record ListBetween (j : ℕ) (rows : List ℕ) (from to : ℕ) : Type 0 where
  pub rises : from ≤ to
  pub inside : to ≤ length rows
  pub ascending : Asc j (slice from to rows)
  pub few : to - from ≤ max_columns
  pub within : (row : ℕ) → row ∈ slice from to rows → row ≤ max_columns

-- such a list, and a place below the bound to write it from
pub record ListNear (rows : List ℕ) (from to j at bound : ℕ) : Type 0 where
  pub list : ListBetween j rows from to
  pub near : at < bound

-- such a list, and bytes has a place from `at` on for each of its gaps
pub record ListFits (rows : List ℕ) (from to j : ℕ) (bytes : List ℕ) (at : ℕ) : Type 0 where
  pub list : ListBetween j rows from to
  pub fits : at + (to - from) ≤ length bytes
