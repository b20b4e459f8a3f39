-- Proves that no front has more entries than the front with the most rows.
-- Assumes nothing.
use Prim.Native.Nat.{ℕ, ◌+◌, ◌≤◌}
use native.Mathlib.Omega.{arith}
use Rattle.papers.specs.Bounds.{max_columns}
use Rattle.papers.specs.Tree.{t}
use Rattle.order_laws.proofs.Triangles.{t-is, t-grows}
use Rattle.room.specs.Rows.{most_entries}

pub entries_fit : (r : ℕ) → r ≤ max_columns + 1 → t r ≤ most_entries
entries_fit r h = omega (arith, t-grows r (max_columns + 1) h, t-is (max_columns + 1))
