-- Proves that `count_pops` writes each step's pops: a list of children is as long as the distance from its start to the next one. The pops of the
-- first k steps are written.
-- Assumes nothing.
use Rattle.std.proofs.Common.{ℕ, ◌≤◌, ◌≡◌, List, map, length, take}
use Rattle.room.specs.Rows.{row_count_at}
use Rattle.room.proofs.count_pops.Given as goal

-- the pops of the first k steps are written
pub record Writing (starts order pops₀ pops : List ℕ) (k : ℕ) : Type 0 where
  pub done : take k pops ≡ map (row_count_at starts) (take k order)
  pub seen : k ≤ length order
  pub same : length pops ≡ length order
  pub long : length pops ≡ length pops₀

abbrev pub invariant-loop-k : goal.invariant-loop-k
invariant-loop-k l = Writing l.starts l.order l.fn.pops l.pops l.k
