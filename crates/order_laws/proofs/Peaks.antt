-- Proves that the peak of an order is the greatest room in use of its steps.
-- Assumes nothing.
use Prim.Native.Nat.{ℕ, ◌<◌, ◌≤◌, max}
use mathlib.Core.Path.{◌≡◌, refl}
use mathlib.Core.List.{List, [], ◌∷◌, ◌++◌}
use native.Mathlib.Omega.{arith}
use lib.ListN.{length}
use Rattle.papers.specs.Lists.{◌∈◌, largest}
use Rattle.papers.specs.Job.{Pattern}
use Rattle.papers.specs.Tree.{row_count}
use Rattle.papers.specs.Room.{room_at, rooms, peak_of}
use Rattle.papers.specs.Order.{pops_of, rooms_of, order_peak}
use Rattle.order_laws.specs.Entries.{entries_after_all}
use Rattle.order_laws.proofs.Rooms.{rooms-append, rooms-length}
use Rattle.order_laws.proofs.Largest.{largest-bound, largest-in, largest-append}

-- the peak after one more step
pub peak-next : (size pops : ℕ → ℕ) (js : List ℕ) (j : ℕ)
    → peak_of size pops (js ++ (j ∷ [])) ≡ max (peak_of size pops js) (room_at (pops j) (size j) (entries_after_all size pops [] js))
unfolding peak_of rooms largest
peak-next size pops js j = rw (rooms-append size pops [] js (j ∷ []), largest-append) (omega arith)

module _ (n : ℕ) (A : Pattern) where
  -- no step uses more room than the peak
  pub room-under-peak : (order : List ℕ) (r : ℕ) → r ∈ rooms_of n A order → r ≤ order_peak n A order
  unfolding rooms_of order_peak peak_of
  room-under-peak order r m = largest-bound (rooms (row_count A) (pops_of n A) [] order) r m

  -- some step uses as much room as the peak
  pub peak-reached : (order : List ℕ) → 0 < length order → order_peak n A order ∈ rooms_of n A order
  unfolding rooms_of order_peak peak_of
  peak-reached order h = largest-in (rooms (row_count A) (pops_of n A) [] order) (omega (arith, rooms-length (row_count A) (pops_of n A) [] order))

  -- the peak of no steps is 0
  pub peak-empty : order_peak n A [] ≡ 0
  unfolding order_peak peak_of rooms largest
  peak-empty = refl
