-- Proves facts of the siblings from place i of the lists on: while steps are left there is such a sibling, its block is read there, and the others
-- follow it.
-- Assumes nothing.
use Prim.Native.Nat.{ℕ, ◌+◌, ◌^◌, ◌<◌, ◌≤◌}
use mathlib.Core.Path.{◌≡◌, sym, ap, ◌∙◌}
use mathlib.Core.Logic.{⊎_elim}
use mathlib.Core.List.{List, ◌++◌}
use native.Mathlib.Omega.{arith}
use lib.ListN.{length, get_or, length-append}
use lib.Seq.{slice, sets}
use Rattle.papers.specs.Lists.{◌∈◌}
use Rattle.list_laws.proofs.Tests.{below_or}
use Rattle.list_laws.proofs.Stores.{sets-append}
use Rattle.tree.specs.Blocks.{blocks, kids_at}
use Rattle.list_laws.proofs.Slices.{slice-into}
use Rattle.tree.proofs.Blocks.{blocks-next, blocks-none, kids-are}
use Rattle.walk.specs.Tasks.{Laid, Asked, Task, own_steps, kids_steps}
use Rattle.walk.specs.Children.{ChildListed, ChildBlock}

-- the steps of the siblings from place i of the lists on
abbrev pub later_steps : List ℕ → List ℕ → ℕ → ℕ → List ℕ
later_steps starts list j i = blocks (kids_at starts list) (slice i (get_or starts (j + 1) 0) list)

-- these steps are from step a to step e
pub record Later (starts list counts : List ℕ) (j e i a : ℕ) : Type 0 where
  pub laid : Laid starts list counts
  pub known : j < length counts
  pub low : get_or starts j 0 ≤ i
  pub place : a + length (later_steps starts list j i) ≡ e

-- all siblings, from the first on
pub all-steps : (starts list : List ℕ) (j : ℕ) → later_steps starts list j (get_or starts j 0) ≡ kids_steps starts list j
all-steps starts list j = ap (blocks (kids_at starts list)) (sym (kids-are starts list j))

pub all-later : {starts list counts : List ℕ} {j left at room : ℕ} → Asked starts list counts j left at room (kids_steps starts list j)
    → Later starts list counts j (at + left) (get_or starts j 0) at
all-later {starts} {list} {j = j} q =
    record { laid = q.laid; known = q.known; low = omega arith; place = rw (all-steps starts list j) (omega (arith, q.count)) }

module _ {starts list counts : List ℕ} {j e i a : ℕ} (later : Later starts list counts j e i a) (more : a < e) where
  -- the lists have a sibling at place i
  in_list : i < get_or starts (j + 1) 0
  in_list =
      let end = get_or starts (j + 1) 0 in
      ⊎_elim
      (λ (h : i < end). h)
      (λ (h : end ≤ i). absurd (omega (arith, later.place, ap length (blocks-none (kids_at starts list) list i end h))))
      (below_or i end)

  inside : get_or starts (j + 1) 0 ≤ length list
  inside = later.laid.inside j later.known

  pub child-inside : i < length list
  child-inside = omega (arith, in_list, inside)

  child : get_or list i 0 ∈ kids_at starts list j
  child = rw kids-are (slice-into (get_or starts j 0) (get_or starts (j + 1) 0) i list inside later.low in_list)

  next : later_steps starts list j i ≡ own_steps starts list (get_or list i 0) ++ later_steps starts list j (i + 1)
  next = blocks-next (kids_at starts list) list i (get_or starts (j + 1) 0) in_list inside

  next_place : length (later_steps starts list j i) ≡ length (own_steps starts list (get_or list i 0)) + length (later_steps starts list j (i + 1))
  next_place = ap length next ∙ length-append (own_steps starts list (get_or list i 0)) (later_steps starts list j (i + 1))

  in-range : (0 < get_or list i 0) × (get_or list i 0 < length counts)
  in-range = later.laid.known j (get_or list i 0) later.known child

  -- the sibling's descendants and itself are its steps
  own : get_or counts (get_or list i 0) 0 + 1 ≡ length (own_steps starts list (get_or list i 0))
  own = later.laid.counted (get_or list i 0) in-range.0 in-range.1

  -- what reading it requires
  pub child-listed : e < 2 ^ 64 → ChildListed list counts i
  child-listed h =
      record { inside = child-inside; known = in-range.1; small = omega (arith, own, next_place, later.place) }

  -- ---- its block as it was read
  module _ {c size first : ℕ} (r : ChildBlock list counts i a c size first) where
    counted : size ≡ length (own_steps starts list c)
    counted = rw r.child (r.counted ∙ own)

    -- the others follow it
    pub others : Later starts list counts j e (i + 1) (a + size)
    others = record {
      laid = later.laid;
      known = later.known;
      low = omega (arith, later.low);
      place = omega (arith, r.counted, own, next_place, later.place);
    }

    -- the sibling's block can be done
    pub child-task : {room : ℕ} → a + size ≤ room → Task starts list counts c size first room (own_steps starts list c)
    child-task h = record {
      asks = record { laid = later.laid; known = rw r.child in-range.1; count = counted; fits = omega (arith, r.begins) };
      some = omega (arith, r.counted);
    }

    pub child-lower : 0 < j → c < j
    child-lower l = rw r.child (later.laid.lower j (get_or list i 0) l child).1

    -- writes its steps, and then those behind it
    pub both : (m : List ℕ)
        → sets (sets m first (own_steps starts list c)) (a + size) (later_steps starts list j (i + 1)) ≡ sets m a (later_steps starts list j i)
    both m =
        sym (rw (next, counted, r.begins, r.child) (sets-append (own_steps starts list (get_or list i 0)) m a (later_steps starts list j (i + 1))))
