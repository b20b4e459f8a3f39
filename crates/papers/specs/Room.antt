-- Defines the room in use at a step, and the peak of an order.
-- Assumes nothing.
use Rattle.std.specs.Prelude.{ℕ, zero, suc, ◌+◌, ◌-◌, List, [], ◌∷◌, drop}
use Rattle.papers.specs.Lists.{head0, sum, largest}
use Rattle.papers.specs.Tree.{t}

-- Throughout, `entries` lists the entries of each update held, the top one first.

-- the entries of the top update if there are pops: the front is put over it
unfoldable pub top_update : ℕ → List ℕ → ℕ
top_update zero entries = 0
top_update (suc p) entries = head0 entries

-- the entries that a front takes in place of the top update: its own r + 1 rows, whatever the entries of that update
unfoldable pub front_room : ℕ → ℕ → ℕ
front_room top r = t (suc r)

-- room in use at a step: all that is held before it, without the top update if it pops any, and its front over that update. The top update
-- is one of those held, so the difference is never cut off at 0.
unfoldable pub room_at : ℕ → ℕ → List ℕ → ℕ
room_at pops r entries = let top = top_update pops entries in sum entries - top + front_room top r

-- the entries held after a step: those of the popped updates are gone, and the column's own are on top; a root has no rows, so it
-- leaves none
unfoldable pub entries_after : ℕ → ℕ → List ℕ → List ℕ
entries_after pops zero entries = drop pops entries
entries_after pops (suc r) entries = t (suc r) ∷ drop pops entries

-- the rooms in use of steps done one after the other, by the rows and the pops of each column
unfoldable pub rooms : (ℕ → ℕ) → (ℕ → ℕ) → List ℕ → List ℕ → List ℕ
rooms size pops entries [] = []
rooms size pops entries (j ∷ js) = room_at (pops j) (size j) entries ∷ rooms size pops (entries_after (pops j) (size j) entries) js

-- the peak: the room of the step that uses the most; 0 without steps
unfoldable pub peak_of : (ℕ → ℕ) → (ℕ → ℕ) → List ℕ → ℕ
peak_of size pops order = largest (rooms size pops [] order)
