-- Proves what room a subtree needs, from what its children's subtrees need: they are done in turn, each above the updates of the earlier
-- ones, and then the front is put over the last update.
-- Assumes nothing.
use Prim.Native.Nat.{ℕ, zero, suc, ◌+◌, ◌<◌, ◌≤◌, max}
use mathlib.Core.Path.{◌≡◌, refl, ap, ◌∙◌}
use mathlib.Core.List.Memᴰ
use mathlib.Core.List.{List, [], ◌∷◌, ◌++◌, flat_map, map}
use native.Mathlib.Omega.{arith}
use lib.ListN.{length, length-append}
use Rattle.papers.specs.Lists.{◌∈◌, sum, largest}
use Rattle.papers.specs.Tree.{t}
use Rattle.papers.specs.Room.{room_at, rooms, peak_of}
use Rattle.papers.specs.Order.{arranged, steps_of}
use Rattle.order_laws.specs.Entries.{entries_after_all}
use Rattle.order_laws.specs.Subtrees.{Kin, in_turn, update_but_last}
use Rattle.order_laws.proofs.Rooms.{room-none, room-over, rooms-append, rooms-length}
use Rattle.order_laws.proofs.Largest.{largest-append, largest-raised}
use Rattle.order_laws.proofs.Arranged.{arranged-elements, arranged-length, steps-suc}
use Rattle.order_laws.proofs.Alone.{leaves-update, stacked, steps-entries, steps-rooms, children-entries}

-- ---- one sibling more

pub in-turn-next : (size need : ℕ → ℕ) (h : ℕ) (cs : List ℕ) (c : ℕ)
    → in_turn size need h (cs ++ (c ∷ [])) ≡ max (in_turn size need h cs) (h + sum (map (λ d. t (size d)) cs) + need c)
unfolding in_turn sum
in-turn-next size need h [] c = omega arith
in-turn-next size need h (d ∷ cs) c = omega (arith, in-turn-next size need (h + t (size d)) cs c)

pub but-last-next : (size : ℕ → ℕ) (cs : List ℕ) (c : ℕ) → update_but_last size (cs ++ (c ∷ [])) ≡ sum (map (λ d. t (size d)) cs)
unfolding update_but_last sum
but-last-next size [] c = refl
but-last-next size (d ∷ []) c = refl
but-last-next size (d ∷ e ∷ cs) c = ap (λ m. t (size d) + m) (but-last-next size (e ∷ cs) c)

-- ---- a column after its children

-- the room of a column's front over its children's updates
front-over : (size : ℕ → ℕ) (r : ℕ) (c : ℕ) (cs entries : List ℕ) (p : ℕ) → 0 < p
    → room_at p r (stacked size (c ∷ cs) entries) ≡ sum entries + update_but_last size (c ∷ cs) + t (suc r)
unfolding update_but_last sum
front-over size r c [] entries p h = room-over p r (t (size c)) entries h ∙ omega arith
front-over size r c (d ∷ cs) entries p h = front-over size r d cs (t (size c) ∷ entries) p h ∙ omega arith

front-room : (size : ℕ → ℕ) (r : ℕ) (cs : List ℕ) → room_at (length cs) r (stacked size cs []) ≡ update_but_last size cs + t (suc r)
unfolding update_but_last sum
front-room size r [] = room-none r []
front-room size r (c ∷ cs) = front-over size r c cs [] (suc (length cs)) (omega arith) ∙ omega arith

module _ (mark : ℕ) (size : ℕ → ℕ) (kids : ℕ → List ℕ) (kin : Kin size kids) where
  abbrev pops : ℕ → ℕ
  pops j = length (kids j)

  abbrev steps : ℕ → ℕ → List ℕ
  steps f = steps_of mark size kids f

  abbrev need : ℕ → ℕ → ℕ
  need f j = peak_of size pops (steps f j)

  some-step : (f j : ℕ) → 0 < j → j ≤ f → 0 < length (steps f j)
  some-step zero j l u = absurd (omega arith)
  some-step (suc f) j l u =
      rw (steps-suc mark size kids f j) (omega (arith, length-append (flat_map (steps f) (arranged mark size kids (steps f) j)) (j ∷ [])))

  needs-in-turn : (f : ℕ) (cs entries : List ℕ) → ((c : ℕ) → c ∈ cs → (0 < c) × (c ≤ f) × (0 < size c))
      → largest (rooms size pops entries (flat_map (steps f) cs)) ≡ in_turn size (need f) (sum entries) cs
  unfolding flat_map rooms largest in_turn peak_of sum
  needs-in-turn f [] entries h = refl
  needs-in-turn f (c ∷ cs) entries h =
      let later = flat_map (steps f) cs in
      let (l, u, z) = h c (Memᴰ.head refl) in
      let own : largest (rooms size pops entries (steps f c)) ≡ sum entries + need f c =
      ap largest (steps-rooms mark size kids kin f c entries l u) ∙ largest-raised (sum entries) (rooms size pops [] (steps f c))
      (omega (arith, rooms-length size pops [] (steps f c), some-step f c l u)) in
      let left : entries_after_all size pops entries (steps f c) ≡ t (size c) ∷ entries =
      steps-entries mark size kids kin f c entries l u ∙ ap (λ q. q ++ entries) (leaves-update (size c) z) in
      let rest = needs-in-turn f cs (t (size c) ∷ entries) (λ d m. h d (Memᴰ.tail m)) in
      let sums : t (size c) + sum entries ≡ sum entries + t (size c) = omega arith in
      rw (rooms-append size pops entries (steps f c) later, left, largest-append, own, rest, sums)

  -- the room that a subtree needs, from its children's
  pub need-children : (f j : ℕ) → 0 < j → j ≤ suc f
      → let cs = arranged mark size kids (steps f) j in need (suc f) j ≡ max (in_turn size (need f) 0 cs) (update_but_last size cs + t (suc (size j)))
  unfolding peak_of rooms largest sum
  need-children f j l u =
      let cs = arranged mark size kids (steps f) j in
      let before = flat_map (steps f) cs in
      let turns = needs-in-turn f cs [] (λ c m. let k = (arranged-elements mark size kids (steps f) j c).0 m in let (a, b) = kin.lower j c l k in
      (a, omega arith, kin.update j c l k)) in
      let front : room_at (pops j) (size j) (stacked size cs []) ≡ update_but_last size cs + t (suc (size j)) = rw
      (← (arranged-length mark size kids (steps f) j)) (front-room size (size j) cs) in
      rw (steps-suc mark size kids f j, rooms-append size pops [] before (j ∷ []), largest-append, children-entries mark size kids kin f j [] l u)
      (omega (arith, turns, front))
