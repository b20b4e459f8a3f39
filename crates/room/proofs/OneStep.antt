-- Proves one step: below holds the sums of the held updates from the lowest up, so one look-up gives the room of the front, and below holds the sums
-- again after the step.
-- Assumes nothing.
use Prim.Native.Nat.{ℕ, zero, suc, ◌+◌, ◌-◌, ◌<◌, ◌≤◌, min}
use mathlib.Core.Path.{◌≡◌, sym, ap, ◌∙◌}
use mathlib.Core.Logic.{◌⊎◌, inl, inr}
use mathlib.Core.List.{List, [], ◌∷◌}
use native.Mathlib.Omega.{arith}
use native.Mathlib.Numerals.{add-one}
use lib.ListN.{length, get_or, set, drop, length-drop}
use lib.Seq.{drop-drop, get_or-set_same, get_or-set_other}
use Rattle.papers.specs.Lists.{sum}
use Rattle.papers.specs.Tree.{t}
use Rattle.papers.specs.Room.{room_at, entries_after}
use Rattle.list_laws.proofs.Tests.{below_or}
use Rattle.order_laws.proofs.Rooms.{room-none, room-over, entries-root, entries-update}
use Rattle.tree.proofs.Sums.{sum-cons}

pub sum_drop : (n : ℕ) (l : List ℕ) → sum (drop n l) ≤ sum l
unfolding sum
sum_drop zero l = omega arith
sum_drop (suc n) [] = omega arith
sum_drop (suc n) (x ∷ l) = omega (arith, sum_drop n l)

-- the room of a front that pops updates
over-top : (p r : ℕ) (entries : List ℕ) → 0 < p → p ≤ length entries → room_at p r entries ≡ sum (drop 1 entries) + t (suc r)
over-top p r [] h l = absurd (omega arith)
over-top p r (x ∷ entries) h l = room-over p r x entries h

module _ (below entries : List ℕ) (depth p r : ℕ) (deep : length entries ≡ depth) (less : p ≤ depth) (sums : (i : ℕ) → i ≤ depth
    → get_or below i 0 ≡ sum (drop (depth - i) entries))
    (wide : depth + 1 < length below)
  where
    pub room-here : get_or below (depth - min p 1) 0 + t (r + 1) ≡ room_at p r entries
    room-here = rw add-one (go (below_or 0 p))
      where
        go : (0 < p) ⊎ (p ≤ 0) → get_or below (depth - min p 1) 0 + t (suc r) ≡ room_at p r entries
        go (inl h) =
            let m : min p 1 ≡ 1 = omega arith in
            let q : depth - (depth - 1) ≡ 1 = omega arith in
            let s = sums (depth - 1) (omega arith) ∙ ap (λ k. sum (drop k entries)) q in
            rw (m, over-top p r entries h (omega arith)) (omega arith)
        go (inr h) =
            let z : p ≡ 0 = omega arith in
            let m : depth - min p 1 ≡ depth = omega arith in
            let q : depth - depth ≡ 0 = omega arith in
            let s = sums depth (omega arith) ∙ ap (λ k. sum (drop k entries)) q in
            rw (m, z, room-none r entries) (omega arith)

    -- the sums below the popped updates stay
    lowest : (v i : ℕ) → i ≤ depth - p → get_or (set below (depth - p + 1) v) i 0 ≡ sum (drop (depth - p - i) (drop p entries))
    lowest v i h =
        let e : depth - i ≡ p + (depth - p - i) = omega arith in
        get_or-set_other below (depth - p + 1) i v 0 (λ e. omega arith)
        ∙ (sums i (omega arith) ∙ (ap (λ m. sum (drop m entries)) e ∙ ap sum (sym (drop-drop (depth - p - i) p entries))))

    -- the updates after the step
    pub record After (v : ℕ) : Type 0 where
      pub length-after : length (entries_after p r entries) ≡ depth - p + min r 1
      pub sum-after : sum (entries_after p r entries) ≤ sum entries + t r
      pub sums-after : (i : ℕ) → i ≤ depth - p + min r 1
          → get_or (set below (depth - p + 1) v) i 0 ≡ sum (drop (depth - p + min r 1 - i) (entries_after p r entries))

    pub after : (v : ℕ) → v ≡ get_or below (depth - p) 0 + t r → After v
    after v e = go (below_or 0 r)
      where
        go : (0 < r) ⊎ (r ≤ 0) → After v
        go (inr h) =
            let z : r ≡ 0 = omega arith in
            let is : entries_after p r entries ≡ drop p entries = rw z (entries-root p entries) in
            record {
              length-after = rw is (omega (arith, length-drop p entries));
              sum-after = rw is (omega (arith, sum_drop p entries));
              sums-after = λ i b. let q : depth - p + min r 1 - i ≡ depth - p - i = omega arith in rw (is, q) (lowest v i (omega arith));
            }
        go (inl h) =
            let is = entries-update p r entries h in
            record {
              length-after = rw is (omega (arith, length-drop p entries));
              sum-after = rw is (omega (arith, sum-cons (t r) (drop p entries), sum_drop p entries));
              sums-after = λ i b. rw is (at i b (below_or (depth - p) i));
            }
          where
            at : (i : ℕ) → i ≤ depth - p + min r 1 → (depth - p < i) ⊎ (i ≤ depth - p)
                → get_or (set below (depth - p + 1) v) i 0 ≡ sum (drop (depth - p + min r 1 - i) (t r ∷ drop p entries))
            at i b (inl a) =
                let q : depth - p + min r 1 - i ≡ 0 = omega arith in
                let w : i ≡ depth - p + 1 = omega arith in
                let u : depth - (depth - p) ≡ p = omega arith in
                let s = sums (depth - p) (omega arith) ∙ ap (λ m. sum (drop m entries)) u in
                rw (q, w) (omega (arith, get_or-set_same below (depth - p + 1) v 0 (omega arith), sum-cons (t r) (drop p entries)))
            at i b (inr a) = let q : depth - p + min r 1 - i ≡ suc (depth - p - i) = omega arith in rw q (lowest v i a)
