-- Proves that steps which pop no more than is held above a base leave the base alone, and use the same room above it as without it.
-- Assumes nothing.
use Prim.Native.Nat.{ℕ, zero, suc, ◌+◌, ◌≤◌}
use mathlib.Core.Path.{◌≡◌, refl, ap}
use mathlib.Core.List.{List, [], ◌∷◌, ◌++◌, map}
use native.Mathlib.Omega.{arith}
use lib.ListN.{length, length-append}
use lib.Seq.{drop-append-le}
use Rattle.papers.specs.Lists.{head0, sum}
use Rattle.papers.specs.Tree.{t}
use Rattle.papers.specs.Room.{top_update, room_at, entries_after, rooms}
use Rattle.order_laws.specs.Entries.{entries_after_all, Enough}
use Rattle.order_laws.proofs.Largest.{sum-append}

room-frame : (p r : ℕ) (entries base : List ℕ) → p ≤ length entries → room_at p r (entries ++ base) ≡ sum base + room_at p r entries
unfolding room_at top_update head0 sum
room-frame zero r entries base h = omega (arith, sum-append entries base)
room-frame (suc p) r [] base h = absurd (omega arith)
room-frame (suc p) r (x ∷ entries) base h = omega (arith, sum-append entries base)

entries-frame : (p r : ℕ) (entries base : List ℕ) → p ≤ length entries → entries_after p r (entries ++ base) ≡ entries_after p r entries ++ base
unfolding entries_after
entries-frame p zero entries base h = drop-append-le p entries base h
entries-frame p (suc r) entries base h = ap (λ l. t (suc r) ∷ l) (drop-append-le p entries base h)

module _ (size pops : ℕ → ℕ) where
  pub entries-above : (js entries base : List ℕ) → Enough size pops entries js
      → entries_after_all size pops (entries ++ base) js ≡ entries_after_all size pops entries js ++ base
  unfolding entries_after_all
  entries-above [] entries base h = refl
  entries-above (j ∷ js) entries base h =
      rw (entries-frame (pops j) (size j) entries base h.0) (entries-above js (entries_after (pops j) (size j) entries) base h.1)

  pub rooms-above : (js entries base : List ℕ) → Enough size pops entries js
      → rooms size pops (entries ++ base) js ≡ map (λ r. sum base + r) (rooms size pops entries js)
  unfolding rooms
  rooms-above [] entries base h = refl
  rooms-above (j ∷ js) entries base h =
      rw (room-frame (pops j) (size j) entries base h.0, entries-frame (pops j) (size j) entries base h.0)
      (ap (λ l. (sum base + room_at (pops j) (size j) entries) ∷ l) (rooms-above js (entries_after (pops j) (size j) entries) base h.1))

  pub enough-append : (entries js ks : List ℕ) → Enough size pops entries js → Enough size pops (entries_after_all size pops entries js) ks
      → Enough size pops entries (js ++ ks)
  unfolding entries_after_all
  enough-append entries [] ks h k = k
  enough-append entries (j ∷ js) ks h k = (h.0, enough-append (entries_after (pops j) (size j) entries) js ks h.1 k)

  pub enough-above : (js entries base : List ℕ) → Enough size pops entries js → Enough size pops (entries ++ base) js
  enough-above [] entries base h = tt
  enough-above (j ∷ js) entries base h = (
    omega (arith, h.0, length-append entries base),
    rw (entries-frame (pops j) (size j) entries base h.0) (enough-above js (entries_after (pops j) (size j) entries) base h.1),
  )
