-- Defines when a function of parents is a forest over the columns 1 to n.
-- Assumes nothing.
use Rattle.std.specs.Prelude.{ℕ, ◌<◌, ◌≤◌, ◌≡◌}

-- every parent is a higher column, at most n; 0 means no parent, and column 0 has none
pub record Tree (par : ℕ → ℕ) (n : ℕ) : Type 0 where
  pub none : par 0 ≡ 0
  pub above : (x : ℕ) → 0 < par x → x < par x
  pub within : (x : ℕ) → par x ≤ n
