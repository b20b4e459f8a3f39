-- Defines a list that adds the pattern rows to others, by the marks of the pattern rows.
-- Assumes nothing.
use Rattle.std.specs.Prelude.{ℕ, ◌≤◌, ◌≡◌, Bool, ◌&&◌, List, eqb, length, take, drop}
use Rattle.papers.specs.Lists.{keep, every}
use Rattle.child_lists.specs.Marks.{marked, is_marked, Markable}

-- a list begins with the rows of another
pub record Begins (list more : List ℕ) : Type 0 where
  pub long : length more ≤ length list
  pub begins : take (length more) list ≡ more

-- tests whether as many rows of a list are marked as there are pattern rows, and all rows behind place p are marked
abbrev pub adds_own_rows : ℕ → ℕ → List ℕ → ℕ → List ℕ → List ℕ → Bool
adds_own_rows n j list p own work = eqb (length (keep (is_marked n j work) list)) (length own) && every (is_marked n j work) (drop p list)

-- work has places for the marks of the pattern rows and of the list's rows, and p is a place of the list
pub record Addable (n : ℕ) (list : List ℕ) (p : ℕ) (own work : List ℕ) : Type 0 where
  pub own-markable : Markable n own work
  pub list-markable : Markable n list work
  pub place : p ≤ length list

-- the pattern rows are marked, and r says whether the list adds them behind place p
pub record Adds (n j : ℕ) (list : List ℕ) (p : ℕ) (own work₀ work : List ℕ) (r : Bool) : Type 0 where
  pub answers : r ≡ adds_own_rows n j list p own work
  pub marks : work ≡ marked n j own work₀
