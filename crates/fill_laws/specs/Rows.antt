-- Defines where a row of R(j) comes from: a pattern row of the subtree, or the list of a child.
-- Assumes nothing.
use Rattle.std.specs.Prelude.{ℕ, ◌<◌, ◌≡◌}
use Rattle.papers.specs.Lists.{◌∈◌}
use Rattle.papers.specs.Job.{Pattern}
use Rattle.papers.specs.Fill.{R}
use Rattle.papers.specs.Tree.{parent, Under}

-- the pattern has i at a column of the subtree of k, and k is below i
pub record Reached (A : Pattern) (i k : ℕ) : Type 0 where
  pub column : ℕ
  pub given : i ∈ A column
  pub under : Under (parent A) k column
  pub above : k < i

-- a child of j that has the row i above j
pub record FromChild (A : Pattern) (j i : ℕ) : Type 0 where
  pub child : ℕ
  pub child-of : parent A child ≡ j
  pub row : i ∈ R A child
  pub above : j < i
