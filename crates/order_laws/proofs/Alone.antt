-- Proves what a subtree's steps do: they never pop more than is held, they leave one update, or none if the top is a root, and above what
-- was held before they use the room that they use alone.
-- Assumes nothing.
use Prim.Native.Nat.{ℕ, zero, suc, ◌+◌, ◌<◌, ◌≤◌}
use mathlib.Core.Path.{◌≡◌, refl, ap, ◌∙◌}
use mathlib.Core.List.Memᴰ
use mathlib.Core.List.{List, [], ◌∷◌, ◌++◌, flat_map, map, reverse_aux}
use native.Mathlib.Omega.{arith}
use lib.ListN.{length, length-reverse_aux, length-map}
use lib.Seq.{drop-length}
use Rattle.papers.specs.Lists.{◌∈◌, sum}
use Rattle.papers.specs.Tree.{t}
use Rattle.papers.specs.Room.{entries_after, rooms}
use Rattle.papers.specs.Order.{arranged, steps_of}
use Rattle.order_laws.specs.Entries.{entries_after_all, Enough}
use Rattle.order_laws.specs.Subtrees.{Kin}
use Rattle.order_laws.proofs.Rooms.{entries-update, entries-append}
use Rattle.order_laws.proofs.Frames.{entries-above, rooms-above, enough-append, enough-above}
use Rattle.order_laws.proofs.Arranged.{arranged-elements, arranged-length, steps-suc}

-- what a column of r rows leaves if it pops all that is held
pub leaves : ℕ → List ℕ
leaves r = entries_after 0 r []

pub leaves-update : (r : ℕ) → 0 < r → leaves r ≡ t r ∷ []
unfolding leaves
leaves-update r h = entries-update 0 r [] h

takes_all : (r : ℕ) (entries : List ℕ) → entries_after (length entries) r entries ≡ leaves r
unfolding leaves entries_after
takes_all zero entries = drop-length entries
takes_all (suc r) entries = ap (λ l. t (suc r) ∷ l) (drop-length entries)

-- siblings done one after the other leave their updates, the last on top, above what is held
abbrev pub stacked : (ℕ → ℕ) → List ℕ → List ℕ → List ℕ
stacked size cs entries = reverse_aux (map (λ c. t (size c)) cs) entries

-- with nothing held before, these steps leave what column j leaves
pub record DoneAlone (size pops : ℕ → ℕ) (j : ℕ) (js : List ℕ) : Type 0 where
  pub enough : Enough size pops [] js
  pub left : entries_after_all size pops [] js ≡ leaves (size j)

module _ (mark : ℕ) (size : ℕ → ℕ) (kids : ℕ → List ℕ) (kin : Kin size kids) where
  abbrev pops : ℕ → ℕ
  pops j = length (kids j)

  abbrev steps : ℕ → ℕ → List ℕ
  steps f = steps_of mark size kids f

  siblings-in-turn : (f : ℕ) (cs entries : List ℕ) → ((c : ℕ) → c ∈ cs → DoneAlone size pops c (steps f c) × (0 < size c))
      → Enough size pops entries (flat_map (steps f) cs) × (entries_after_all size pops entries (flat_map (steps f) cs) ≡ stacked size cs entries)
  unfolding flat_map entries_after_all
  siblings-in-turn f [] entries h = (tt, refl)
  siblings-in-turn f (c ∷ cs) entries h =
      let (a, z) = h c (Memᴰ.head refl) in
      let e : entries_after_all size pops entries (steps f c) ≡ t (size c) ∷ entries =
      entries-above size pops (steps f c) [] entries a.enough ∙ ap (λ l. l ++ entries) (a.left ∙ leaves-update (size c) z) in
      let (s, q) = siblings-in-turn f cs (t (size c) ∷ entries) (λ d m. h d (Memᴰ.tail m)) in (
        enough-append size pops entries (steps f c) (flat_map (steps f) cs) (enough-above size pops (steps f c) [] entries a.enough) (rw e s),
        entries-append size pops entries (steps f c) (flat_map (steps f) cs) ∙ rw e q,
      )

  -- the children of j in the order of its steps
  abbrev pub arranged_kids : ℕ → ℕ → List ℕ
  arranged_kids f j = arranged mark size kids (steps f) j

  stacked-length : (f j : ℕ) → pops j ≡ length (stacked size (arranged_kids f j) [])
  stacked-length f j =
      omega (
        arith,
        length-reverse_aux (map (λ c. t (size c)) (arranged_kids f j)) [],
        length-map (arranged_kids f j) (λ c. t (size c)),
        arranged-length mark size kids (steps f) j,
      )

  then-parent : (f j : ℕ)
      → Enough size pops [] (flat_map (steps f) (arranged_kids f j)) × (entries_after_all size pops [] (flat_map (steps f) (arranged_kids f j)) ≡ stacked size
      (arranged_kids f j) [])
      → DoneAlone size pops j (steps (suc f) j)
  unfolding entries_after_all
  then-parent f j (s, q) =
      let before = flat_map (steps f) (arranged_kids f j) in
      let e = stacked-length f j in
      rw (steps-suc mark size kids f j) (record {
        enough = enough-append size pops [] before (j ∷ []) s (rw q (omega (arith, e), tt));
        left = entries-append size pops [] before (j ∷ []) ∙ rw (q, e) (takes_all (size j) (stacked size (arranged_kids f j) []));
      })

  abbrev Deep : ℕ → Type 0
  Deep f = (j : ℕ) → 0 < j → j ≤ f → DoneAlone size pops j (steps f j)

  children-done : (f j : ℕ) (entries : List ℕ) → Deep f → 0 < j → j ≤ suc f
      → Enough size pops entries (flat_map (steps f) (arranged_kids f j))
      × (entries_after_all size pops entries (flat_map (steps f) (arranged_kids f j)) ≡ stacked
      size (arranged_kids f j) entries)
  children-done f j entries deep l u =
      siblings-in-turn f (arranged_kids f j) entries
      (λ c m. let k = (arranged-elements mark size kids (steps f) j c).0 m in let (a, b) = kin.lower j c l k in
      (deep c a (omega arith), kin.update j c l k))

  -- the steps of a subtree pop no more than is held and leave what its top leaves
  pub steps-alone : (f j : ℕ) → 0 < j → j ≤ f → DoneAlone size pops j (steps_of mark size kids f j)
  steps-alone zero j l u = absurd (omega arith)
  steps-alone (suc f) j l u = then-parent f j (children-done f j [] (λ c a b. steps-alone f c a b) l u)

  -- after the children of j, their updates are on top of what was held
  pub children-entries : (f j : ℕ) (entries : List ℕ) → 0 < j → j ≤ suc f
      → entries_after_all size pops entries (flat_map (steps_of mark size kids f) (arranged_kids f j)) ≡ stacked size (arranged_kids f j) entries
  children-entries f j entries l u = (children-done f j entries (steps-alone f) l u).1

  -- above what is held, a subtree leaves one more update
  pub steps-entries : (f j : ℕ) (entries : List ℕ) → 0 < j → j ≤ f
      → entries_after_all size pops entries (steps_of mark size kids f j) ≡ leaves (size j) ++ entries
  steps-entries f j entries l u = let a = steps-alone f j l u in entries-above size pops (steps f j) [] entries a.enough ∙ ap (λ q. q ++ entries) a.left

  -- above what is held, a subtree uses the room that it uses alone
  pub steps-rooms : (f j : ℕ) (entries : List ℕ) → 0 < j → j ≤ f
      → rooms size pops entries (steps_of mark size kids f j) ≡ map (λ r. sum entries + r) (rooms size pops [] (steps_of mark size kids f j))
  steps-rooms f j entries l u = rooms-above size pops (steps f j) [] entries (steps-alone f j l u).enough
