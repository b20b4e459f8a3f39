-- Proves the room in use and the entries held, at one step and over steps one after the other.
-- Assumes nothing.
use Prim.Native.Nat.{ℕ, zero, suc, ◌+◌, ◌<◌, ◌≤◌}
use mathlib.Core.Path.{◌≡◌, refl, ap}
use mathlib.Core.List.{List, [], ◌∷◌, ◌++◌}
use native.Mathlib.Omega.{arith}
use lib.ListN.{length, drop}
use Rattle.papers.specs.Lists.{head0, sum}
use Rattle.papers.specs.Tree.{t}
use Rattle.papers.specs.Room.{top_update, front_room, room_at, entries_after, rooms}
use Rattle.order_laws.specs.Entries.{entries_after_all}

-- ---- one step

-- a step without pops puts its front above all that is held
pub room-none : (r : ℕ) (entries : List ℕ) → room_at 0 r entries ≡ sum entries + t (suc r)
unfolding room_at top_update front_room
room-none r entries = omega arith

-- a step with pops puts its front over the top update
pub room-over : (pops r top : ℕ) (rest : List ℕ) → 0 < pops → room_at pops r (top ∷ rest) ≡ sum rest + t (suc r)
unfolding room_at top_update front_room head0 sum
room-over zero r top rest h = absurd (omega arith)
room-over (suc p) r top rest h = omega arith

pub room-at-most : (pops r : ℕ) (entries : List ℕ) → room_at pops r entries ≤ sum entries + t (suc r)
unfolding room_at front_room
room-at-most pops r entries = omega arith

-- a root leaves nothing
pub entries-root : (pops : ℕ) (entries : List ℕ) → entries_after pops 0 entries ≡ drop pops entries
unfolding entries_after
entries-root pops entries = refl

-- any other column leaves its update
pub entries-update : (pops r : ℕ) (entries : List ℕ) → 0 < r → entries_after pops r entries ≡ t r ∷ drop pops entries
unfolding entries_after
entries-update pops zero entries h = absurd (omega arith)
entries-update pops (suc r) entries h = refl

-- ---- steps one after the other

module _ (size pops : ℕ → ℕ) where
  pub rooms-nil : (entries : List ℕ) → rooms size pops entries [] ≡ []
  unfolding rooms
  rooms-nil entries = refl

  pub rooms-cons : (entries : List ℕ) (j : ℕ) (js : List ℕ)
      → rooms size pops entries (j ∷ js) ≡ room_at (pops j) (size j) entries ∷ rooms size pops (entries_after (pops j) (size j) entries) js
  unfolding rooms
  rooms-cons entries j js = refl

  pub rooms-append : (entries js ks : List ℕ)
      → rooms size pops entries (js ++ ks) ≡ rooms size pops entries js ++ rooms size pops (entries_after_all size pops entries js) ks
  unfolding rooms entries_after_all
  rooms-append entries [] ks = refl
  rooms-append entries (j ∷ js) ks = ap (λ l. room_at (pops j) (size j) entries ∷ l) (rooms-append (entries_after (pops j) (size j) entries) js ks)

  pub rooms-length : (entries js : List ℕ) → length (rooms size pops entries js) ≡ length js
  unfolding rooms
  rooms-length entries [] = refl
  rooms-length entries (j ∷ js) = ap suc (rooms-length (entries_after (pops j) (size j) entries) js)

  pub entries-append : (entries js ks : List ℕ)
      → entries_after_all size pops entries (js ++ ks) ≡ entries_after_all size pops (entries_after_all size pops entries js) ks
  unfolding entries_after_all
  entries-append entries [] ks = refl
  entries-append entries (j ∷ js) ks = entries-append (entries_after (pops j) (size j) entries) js ks
