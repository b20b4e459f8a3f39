-- Defines an order that names each column once, and the step of each column in it.
-- Assumes nothing.
use Rattle.std.specs.Prelude.{ℕ, ◌+◌, ◌<◌, ◌≤◌, ◌≡◌, List, length, get_or}
use Rattle.papers.specs.Bounds.{max_columns, work_length_for}
use Rattle.papers.specs.Lists.{◌∈◌, Distinct}
use Rattle.tree.specs.Parents.{TreeIn}

-- the order names only columns of 1 to n, and none twice
pub record EachOnce (n : ℕ) (order : List ℕ) : Type 0 where
  pub range : (j : ℕ) → j ∈ order → (1 ≤ j) × (j ≤ n)
  pub once : Distinct order

-- the number that a list holds for column c
abbrev pub number_for : List ℕ → ℕ → ℕ
number_for numbers c = get_or numbers c 0

-- steps holds the step of each column of the order, counted from 1
pub record StepOfEach (order steps : List ℕ) : Type 0 where
  pub each : (k : ℕ) → k < length order → number_for steps (get_or order k 0) ≡ k + 1

-- the order names each column once, and steps has a place for each
pub record StepsWritable (order steps : List ℕ) : Type 0 where
  pub each : EachOnce (length order) order
  pub long : length steps ≡ length order + 1

-- a tree, an order that names each of its columns once, and work has places for the steps and the counts of descendants
pub record OrderGiven (parents order work : List ℕ) : Type 0 where
  pub tree : TreeIn parents
  pub few : length parents ≤ max_columns
  pub each : EachOnce (length parents) order
  pub long : length order ≡ length parents
  pub room : work_length_for (length parents) ≤ length work
