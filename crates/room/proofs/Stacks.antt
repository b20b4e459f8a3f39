-- Proves the pass that finds the peak: below holds the sums of the held updates from the lowest up, so popping, pushing and the room of a front take
-- one look-up each.
-- Assumes nothing.
use Prim.Native.Nat.{ℕ, suc, ◌+◌, ◌-◌, ◌*◌, ◌<◌, ◌≤◌, min, max}
use mathlib.Core.Path.{◌≡◌, refl, sym, ap, ◌∙◌}
use mathlib.Core.List.{List, [], ◌∷◌}
use native.Mathlib.Omega.{arith}
use native.Mathlib.Numerals.{add-one}
use lib.ListN.{length, get_or, set, drop, length-set}
use lib.Seq.{get_or-set_same}
use Rattle.papers.specs.Lists.{sum, largest, up_to}
use Rattle.papers.specs.Tree.{t}
use Rattle.papers.specs.Room.{room_at, entries_after, rooms, peak_of}
use Rattle.order_laws.specs.Entries.{entries_after_all}
use Rattle.order_laws.proofs.Largest.{largest-append}
use Rattle.order_laws.proofs.Rooms.{rooms-nil, rooms-cons, rooms-append, entries-append}
use Rattle.order_laws.proofs.Steps.{column-at}
use Rattle.tree.proofs.Sums.{sum-nil}
use Rattle.room.specs.Rows.{row_count_in, RowsCounted, most_entries}
use Rattle.room.specs.Steps.{rows_at, pops_of_step, entries_at, UpdatesSummed, StepDone, StepsDoable}
use Rattle.room.proofs.Entries.{entries_fit}
use Rattle.room.proofs.OneStep.{sum_drop, room-here, after}

module _ (factor order pops : List ℕ) where
  next-entries : (k : ℕ)
      → entries_at factor order pops (suc k) ≡ entries_after (pops_of_step pops (suc k)) (rows_at factor order (suc k)) (entries_at factor order pops k)
  unfolding up_to entries_after_all
  next-entries k = entries-append (rows_at factor order) (pops_of_step pops) [] (up_to k) (suc k ∷ [])

  abbrev rooms_to : ℕ → List ℕ
  rooms_to k = rooms (rows_at factor order) (pops_of_step pops) [] (up_to k)

  next-room : (k : ℕ) → largest (rooms_to (suc k)) ≡ max (largest (rooms_to k)) (room_at (pops_of_step pops (suc k)) (rows_at factor order (suc k))
      (entries_at factor order pops k))
  unfolding up_to largest
  next-room k =
      ap largest (rooms-append (rows_at factor order) (pops_of_step pops) [] (up_to k) (suc k ∷ [])) ∙ rw (largest-append, rooms-cons, rooms-nil)
      (omega arith)

-- below holds the sums of the updates held after k steps
pub record Stacked (factor order pops below₀ below : List ℕ) (depth k : ℕ) : Type 0 where
  pub deep : length (entries_at factor order pops k) ≡ depth
  pub few : depth ≤ k
  pub light : sum (entries_at factor order pops k) ≤ k * most_entries
  pub sums : (i : ℕ) → i ≤ depth → get_or below i 0 ≡ sum (drop (depth - i) (entries_at factor order pops k))
  pub seen : k ≤ length order
  pub wide : length order < length below
  pub long : length below ≡ length below₀

module _ (factor order pops : List ℕ) where
  pub stacked-start : (entry : List ℕ) → length order < length entry → Stacked factor order pops (set entry 0 0) (set entry 0 0) 0 0
  unfolding up_to entries_after_all
  stacked-start entry wide = record {
    deep = refl;
    few = omega arith;
    light = omega (arith, sum-nil);
    sums = λ i h. let z : i ≡ 0 = omega arith in rw z (get_or-set_same entry 0 0 0 (omega arith) ∙ sym sum-nil);
    seen = omega arith;
    wide = omega (arith, length-set entry 0 0);
    long = refl;
  }

  module _ {below₀ below : List ℕ} {depth k : ℕ} (inv : Stacked factor order pops below₀ below depth k) (pre : StepsDoable factor order pops)
      (more : k < length order) {r : ℕ}
      (rows : RowsCounted factor (get_or order k 0) r)
    where
      enough : get_or pops k 0 ≤ depth
      enough = omega (arith, pre.enough k more, inv.deep, column-at pops k)

      inside : depth + 1 < length below
      inside = omega (arith, inv.few, inv.wide)

      rows-here : rows_at factor order (suc k) ≡ r
      rows-here = ap (row_count_in factor) (column-at order k) ∙ sym rows.same

      -- the next step pops no more than is held, and every sum in below is small
      pub stacked-over : UpdatesSummed below depth (get_or pops k 0) r
      stacked-over = record {
        enough = enough;
        inside = inside;
        light = λ i h. omega (arith, inv.sums i h, inv.light, sum_drop (depth - i) (entries_at factor order pops k), pre.few);
        few = rows.few;
      }

      -- the room of the next step
      pub stacked-room : {u : ℕ} → u ≡ get_or below (depth - min (get_or pops k 0) 1) 0 + t (r + 1)
          → u ≡ room_at (pops_of_step pops (suc k)) (rows_at factor order (suc k)) (entries_at factor order pops k)
      stacked-room e =
          rw (rows-here, column-at pops k) (e ∙ room-here below (entries_at factor order pops k) depth (get_or pops k 0) r inv.deep enough inv.sums
          inside)

      pub stacked-turn : {d : ℕ} {b : List ℕ} → StepDone below depth (get_or pops k 0) r b d → Stacked factor order pops below₀ b d (k + 1)
      stacked-turn one =
          let p = get_or pops k 0 in
          let entries = entries_at factor order pops k in
          let next : entries_at factor order pops (k + 1) ≡ entries_after p r entries = rw (add-one, ← rows-here, ← (column-at pops k))
          (next-entries factor order pops k) in
          let a = after below entries depth p r inv.deep enough inv.sums inside (get_or below (depth - p) 0 + t r) refl in
          rw (one.counted, one.summed) (record {
            deep = rw next a.length-after;
            few = omega (arith, inv.few, enough);
            light = rw next (omega (arith, a.sum-after, entries_fit r (omega (arith, rows.few)), inv.light));
            sums = rw next a.sums-after;
            seen = omega arith;
            wide = omega (arith, inv.wide, length-set below (depth - p + 1) (get_or below (depth - p) 0 + t r));
            long = length-set below (depth - p + 1) (get_or below (depth - p) 0 + t r) ∙ inv.long;
          })

-- ---- the greatest room so far

pub record Peaked (factor order pops below₀ below : List ℕ) (depth most k : ℕ) : Type 0 where
  pub stacked : Stacked factor order pops below₀ below depth k
  pub so_far : most ≡ largest (rooms (rows_at factor order) (pops_of_step pops) [] (up_to k))

module _ (factor order pops : List ℕ) where
  pub peaked-start : (entry : List ℕ) → length order < length entry → Peaked factor order pops (set entry 0 0) (set entry 0 0) 0 0 0
  unfolding up_to largest
  peaked-start entry wide = record { stacked = stacked-start factor order pops entry wide; so_far = rw rooms-nil refl }

  module _ {below₀ below : List ℕ} {depth most k : ℕ} (inv : Peaked factor order pops below₀ below depth most k) where
    pub peaked-stop : length order ≤ k → most ≡ peak_of (rows_at factor order) (pops_of_step pops) (up_to (length order))
    unfolding peak_of
    peaked-stop h = let e : k ≡ length order = omega (arith, inv.stacked.seen) in rw (← e) inv.so_far

    pub peaked-turn : (pre : StepsDoable factor order pops) (more : k < length order) {r u m d : ℕ} {b : List ℕ}
        → RowsCounted factor (get_or order k 0) r
        → u ≡ get_or below (depth - min (get_or pops k 0) 1) 0 + t (r + 1) → m ≡ max most u → StepDone below depth (get_or pops k 0) r b d
        → Peaked factor order pops below₀ b d m (k + 1)
    peaked-turn pre more rows eu em one = record {
      stacked = stacked-turn factor order pops inv.stacked pre more rows one;
      so_far = rw add-one (omega (arith, next-room factor order pops k, stacked-room factor order pops inv.stacked pre more rows eu, inv.so_far));
    }
