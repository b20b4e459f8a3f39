-- Proves that the rooms of the steps, with pops read from a list, are the rooms of the columns, each with its own pops.
-- Assumes nothing.
use Prim.Native.Nat.{ℕ, zero, suc, ◌<◌, ◌≤◌}
use mathlib.Core.Path.{◌≡◌, refl, ap, ◌∙◌}
use mathlib.Core.List.{List, [], ◌∷◌, ◌++◌, map}
use native.Mathlib.Omega.{arith}
use lib.ListN.{length, get_or, take}
use lib.Seq.{take-suc, take-length}
use Rattle.papers.specs.Lists.{largest, up_to}
use Rattle.papers.specs.Room.{rooms, peak_of}
use Rattle.papers.specs.Order.{column_at_step}
use Rattle.list_laws.proofs.Members.{map_at}
use Rattle.order_laws.specs.Entries.{entries_after_all}
use Rattle.order_laws.proofs.Rooms.{rooms-nil, rooms-cons, rooms-append, entries-append}
use Rattle.order_laws.proofs.Steps.{column-at}

module _ (size pops : ℕ → ℕ) (order : List ℕ) where
  abbrev size_at : ℕ → ℕ
  size_at s = size (column_at_step order s)

  abbrev listed_pops : ℕ → ℕ
  listed_pops s = column_at_step (map pops order) s

  pub pops-here : (k : ℕ) → k < length order → listed_pops (suc k) ≡ pops (get_or order k 0)
  pops-here k h = column-at (map pops order) k ∙ map_at pops order k 0 0 h

  size-here : (k : ℕ) → size_at (suc k) ≡ size (get_or order k 0)
  size-here k = ap size (column-at order k)

  -- the entries held after k steps
  pub entries-by-steps : (k : ℕ) → k ≤ length order → entries_after_all size_at listed_pops [] (up_to k) ≡ entries_after_all size pops [] (take k order)
  unfolding up_to entries_after_all
  entries-by-steps zero h = refl
  entries-by-steps (suc k) h =
      entries-append size_at listed_pops [] (up_to k) (suc k ∷ [])
      ∙ rw (
        take-suc order k 0 (omega arith),
        entries-append size pops [] (take k order) (get_or order k 0 ∷ []),
        pops-here k (omega arith),
        size-here k,
        entries-by-steps k (omega arith),
      )

  rooms-by-steps : (k : ℕ) → k ≤ length order → rooms size_at listed_pops [] (up_to k) ≡ rooms size pops [] (take k order)
  unfolding up_to
  rooms-by-steps zero h = rw (rooms-nil size_at listed_pops [], rooms-nil size pops [])
  rooms-by-steps (suc k) h =
      rooms-append size_at listed_pops [] (up_to k) (suc k ∷ [])
      ∙ rw (
        take-suc order k 0 (omega arith),
        rooms-append size pops [] (take k order) (get_or order k 0 ∷ []),
        rooms-by-steps k (omega arith),
        entries-by-steps k (omega arith),
      )
      (ap (λ l. rooms size pops [] (take k order) ++ l) (last k (omega arith) (entries_after_all size pops [] (take k order))))
    where
      last : (k : ℕ) → k < length order → (entries : List ℕ) → rooms size_at listed_pops entries (suc k ∷ []) ≡ rooms size pops entries (get_or order k 0 ∷ [])
      last k h entries =
          rw (
            rooms-cons size_at listed_pops entries (suc k) [],
            rooms-cons size pops entries (get_or order k 0) [],
            pops-here k h,
            size-here k,
            rooms-nil,
            rooms-nil,
          )

  -- the peak
  pub peak-by-steps : peak_of size_at listed_pops (up_to (length order)) ≡ peak_of size pops order
  unfolding peak_of
  peak-by-steps = ap largest (rooms-by-steps (length order) (omega arith) ∙ ap (rooms size pops []) (take-length order))

  -- no step pops more than is held
  pub enough-by-steps : (k : ℕ) → k < length order → pops (get_or order k 0) ≤ length (entries_after_all size pops [] (take k order))
      → listed_pops (suc k) ≤ length (entries_after_all size_at listed_pops [] (up_to k))
  enough-by-steps k b h = rw (pops-here k b, entries-by-steps k (omega arith)) h
