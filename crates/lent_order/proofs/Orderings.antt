-- Proves that the order is made in the first places of order and pops, and that the places behind stay as they were.
-- Assumes nothing.
use Prim.Native.Nat.{ℕ, ◌+◌}
use mathlib.Core.Path.{◌≡◌}
use mathlib.Core.List.{List, ◌++◌}
use lib.ListN.{length, take, drop}
use Rattle.papers.specs.Lists.{zeros}
use Rattle.order.specs.Given.{Given, OrderMade}
use Rattle.lent_order.specs.Ordering.{Orderable, Ordering}
use lib.Seq.{length-take-le}

module _ {mark n : ℕ} {parents order pops starts work : List ℕ} (h : Orderable mark n parents order pops starts work) where
  -- the lent parts are as long as the order requires
  pub order-given : Given mark (take n parents) (take (n + 1) starts) (length (take n order)) (length (take n pops)) (length work)
  order-given = rw (length-take-le n order h.order-long, length-take-le n pops h.pops-long) h.given

  pub ordering-made : {x y w : List ℕ} {peak : ℕ} → OrderMade mark (take n parents) (take (n + 1) starts) x y peak → w ≡ zeros work
      → Ordering mark n parents order pops starts work (x ++ drop n order) (y ++ drop n pops) w peak
  ordering-made made e = record { steps = rw made.steps; counts = rw made.counts; peak-is = made.peak-is; cleared = e }
