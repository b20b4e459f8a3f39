-- Proves the steps of the pass that finds a column's W: it goes from the first i children to one child more.
-- Assumes nothing.
use Prim.Native.Nat.{ℕ, ◌+◌, ◌*◌, ◌<◌, ◌≤◌, max}
use mathlib.Core.Path.{◌≡◌, refl, ap}
use mathlib.Core.List.{List, [], ◌∷◌, ◌++◌, map, map-append}
use native.Mathlib.Omega.{arith}
use native.Mathlib.Numerals.{add-one}
use lib.ListN.{length, get_or, take}
use lib.Seq.{take-suc}
use Rattle.papers.specs.Bounds.{max_columns}
use Rattle.papers.specs.Lists.{◌∈◌, sum}
use Rattle.papers.specs.Tree.{t}
use Rattle.list_laws.proofs.Members.{at_place}
use Rattle.order_laws.specs.Subtrees.{in_turn, update_but_last}
use Rattle.order_laws.proofs.Largest.{sum-append}
use Rattle.order_laws.proofs.Needs.{in-turn-next, but-last-next}
use Rattle.tree.proofs.Sums.{sum-nil, sum-cons}
use Rattle.room.specs.Rows.{row_count_in, ColumnStarts, RowsCounted, most_entries}
use Rattle.room.proofs.Entries.{entries_fit}
use Rattle.sibling_keys.specs.Kids.{Kids}

-- the first i children are done
pub record Turned (factor rooms kids : List ℕ) (most before below i : ℕ) : Type 0 where
  pub so_far : most ≡ in_turn (row_count_in factor) (λ c. get_or rooms c 0) 0 (take i kids)
  pub but_last : before ≡ update_but_last (row_count_in factor) (take i kids)
  pub updates : below ≡ sum (map (λ c. t (row_count_in factor c)) (take i kids))
  pub light : below ≤ i * most_entries
  pub lighter : before ≤ below
  pub seen : i ≤ length kids

module _ (factor rooms kids : List ℕ) (j : ℕ) where
  pub turned-start : Turned factor rooms kids 0 0 0 0
  unfolding in_turn update_but_last sum
  turned-start = record { so_far = refl; but_last = refl; updates = refl; light = omega arith; lighter = omega arith; seen = omega arith }

  module _ {most before below i : ℕ} (inv : Turned factor rooms kids most before below i) where
    module _ (pre : Kids factor rooms kids j) (more : i < length kids) where
      child : get_or kids i 0 ∈ kids
      child = at_place kids i more

      pub turned-column : ColumnStarts factor (get_or kids i 0)
      turned-column = pre.column (get_or kids i 0) child

      pub turned-known : get_or kids i 0 < length rooms
      turned-known = pre.known (get_or kids i 0) child

      -- the room of a child above the earlier updates does not exceed so many largest fronts
      pub turned-light : below + get_or rooms (get_or kids i 0) 0 ≤ 2 * (max_columns * most_entries)
      turned-light = omega (arith, inv.light, pre.few, pre.light (get_or kids i 0) child)

      pub turned_turn : {m r v : ℕ} → m ≡ max most (below + get_or rooms (get_or kids i 0) 0) → RowsCounted factor (get_or kids i 0) r → v ≡ t r
          → Turned factor rooms kids m below (below + v) (i + 1)
      turned_turn {m} {r} {v} em er ev =
          let c = get_or kids i 0 in
          let need : ℕ → ℕ = λ c. get_or rooms c 0 in
          let entries : ℕ → ℕ = λ c. t (row_count_in factor c) in
          let one : take (i + 1) kids ≡ take i kids ++ (c ∷ []) = rw add-one (take-suc kids i 0 more) in
          let turn = in-turn-next (row_count_in factor) need 0 (take i kids) c in
          let last = but-last-next (row_count_in factor) (take i kids) c in
          let sums : sum (map entries (take i kids ++ (c ∷ []))) ≡ sum (map entries (take i kids)) + entries c =
          rw (map-append entries (take i kids) (c ∷ []), sum-append (map entries (take i kids)) (entries c ∷ []))
          (omega (arith, sum-cons (entries c) [], sum-nil)) in
          record {
            so_far = rw one (omega (arith, turn, em, inv.so_far, inv.updates));
            but_last = rw one (omega (arith, last, inv.updates));
            updates = rw one (omega (arith, sums, ev, ap t er.same, inv.updates));
            light = omega (arith, inv.light, ev, entries_fit r (omega (arith, er.few)));
            lighter = omega arith;
            seen = omega arith;
          }
