-- Defines columns that stray from their parents. A subtree of b + 1 columns whose top is done at step s should take the steps s - b to s, so a
-- column's steps should be within its parent's.
-- Assumes nothing.
use Rattle.std.specs.Prelude.{ℕ, zero, suc, ◌+◌, ◌<◌, ◌≤◌, min, ◌≡◌, true, false, ◌&&◌, List, leb, eqb, length, Option, Some, None}
use Rattle.papers.specs.Bounds.{max_columns}
use Rattle.tree.specs.Parents.{TreeIn}
use Rattle.check_subtrees.specs.Steps.{number_for}

-- 0 if c is a root or its steps are within its parent's; else the parent's step
unfoldable pub stray_step_of : (ℕ → ℕ) → (ℕ → ℕ) → (ℕ → ℕ) → ℕ → ℕ
stray_step_of par step below c =
    elim (eqb (par c) 0) [
      | true ↦ 0
      | false ↦ elim (leb (step c) (step (par c)) && leb (step (par c) + below c) (step c + below (par c))) [ true ↦ 0 | false ↦ step (par c) ]
    ]

-- the lesser of two steps, where 0 means none
unfoldable pub earlier : ℕ → ℕ → ℕ
earlier zero b = b
earlier (suc a) zero = suc a
earlier (suc a) (suc b) = min (suc a) (suc b)

-- the lesser of two steps, either of which may be missing
abbrev pub lesser_step : Option ℕ → Option ℕ → Option ℕ
lesser_step None b = b
lesser_step (Some a) None = Some a
lesser_step (Some a) (Some b) = Some (min a b)

-- the least of f 1 to f n that is not 0; 0 if there is none
unfoldable pub earliest : (ℕ → ℕ) → ℕ → ℕ
earliest f zero = 0
earliest f (suc n) = earlier (earliest f n) (f (suc n))

-- lists hold the steps and the counts of descendants for the columns of a tree
pub record Placed (parents steps below : List ℕ) : Type 0 where
  pub tree : TreeIn parents
  pub steps-length : length steps ≡ length parents + 1
  pub below_length : length below ≡ length parents + 1
  pub steps_from : (c : ℕ) → 1 ≤ c → c ≤ length parents → 1 ≤ number_for steps c
  pub steps_low : (c : ℕ) → 1 ≤ c → c ≤ length parents → number_for steps c ≤ max_columns
  pub below-low : (c : ℕ) → 1 ≤ c → c ≤ length parents → number_for below c ≤ max_columns

-- one of these columns, at place i
pub record PlacedAt (parents steps below : List ℕ) (i : ℕ) : Type 0 where
  pub placed : Placed parents steps below
  pub known : i < length parents
