-- Proves that `seek` finds a row's place, which is never before low, and low is never behind the place looked at. Each turn leaves fewer places.
-- Assumes nothing.
use Prim.Native.Nat.{ℕ, ◌-◌, ◌≤◌}
use mathlib.Core.List.{List}
use lib.ListN.{length}
use Rattle.run_front.specs.Search.{Bracket}
use Rattle.run_front.proofs.seek.Given as goal

-- the row's place is not before low, and the next place looked at is no earlier
pub record Looking (rows : List ℕ) (row from low look : ℕ) : Type 0 where
  pub between : Bracket rows row low (length rows)
  pub ahead : low ≤ look
  pub on : from ≤ low

abbrev pub invariant-loop-look : goal.invariant-loop-look
invariant-loop-look l = Looking l.rows l.row l.from l.low l.look

abbrev pub decreases-loop-look : goal.decreases-loop-look
decreases-loop-look l = length l.rows - l.look
