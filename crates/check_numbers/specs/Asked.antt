-- Defines what comparing a job's numbers and lists with a plan requires of them and of the place.
-- Assumes nothing.
use Rattle.std.specs.Prelude.{ℕ, ◌≤◌, List, length}
use Rattle.column_laws.specs.Tested.{Tested}
use Rattle.groups.specs.Fits.{FitsGroups}
use Rattle.write_gaps.specs.ListBetween.{ListBetween}

-- a number is compared from a place within the plan
pub record NumberMatchAsked (plan : List ℕ) (at x : ℕ) : Type 0 where
  pub fits : FitsGroups x
  pub inside : at ≤ length plan

-- two numbers are compared
pub record TwoMatchAsked (plan : List ℕ) (at x y : ℕ) : Type 0 where
  pub first_fits : FitsGroups x
  pub second_fits : FitsGroups y
  pub inside : at ≤ length plan

-- the list of column j is compared
pub record ListMatchAsked (plan : List ℕ) (at : ℕ) (rows : List ℕ) (from to j : ℕ) : Type 0 where
  pub inside : at ≤ length plan
  pub list : ListBetween j rows from to

-- the lists of n columns are compared
pub record ListsMatchAsked (n : ℕ) (starts rows plan : List ℕ) (at : ℕ) : Type 0 where
  pub inside : at ≤ length plan
  pub tested : Tested n starts rows
