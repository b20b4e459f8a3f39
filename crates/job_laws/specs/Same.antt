-- Defines when two jobs agree in all that a key says: size, sibling mark, room limit, and the pattern rows of every column.
-- Assumes nothing.
use Rattle.std.specs.Prelude.{ℕ, ◌≤◌, ◌≡◌}
use Rattle.papers.specs.Job.{Job, pattern}

pub record SameJob (a b : Job) : Type 0 where
  pub columns : a.n ≡ b.n
  pub marks : a.mark ≡ b.mark
  pub limits : a.limit ≡ b.limit
  pub rows : (j : ℕ) → 1 ≤ j → j ≤ a.n → pattern a j ≡ pattern b j
