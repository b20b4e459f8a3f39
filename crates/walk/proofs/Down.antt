-- Proves how the column's task goes down: a column's steps are those of its children, then itself. The block that is handed back is all that is left
-- to write, and a leaf's block is one step.
-- Assumes nothing.
use Prim.Native.Nat.{ℕ, zero, suc, ◌+◌, ◌-◌, ◌<◌, ◌≤◌}
use mathlib.Core.Path.{◌≡◌, refl, ◌∙◌}
use mathlib.Core.List.{List, [], ◌∷◌}
use native.Mathlib.Omega.{arith}
use lib.ListN.{length, set, length-set}
use lib.Seq.{sets}
use Rattle.list_laws.proofs.Stores.{sets-append}
use Rattle.tree.specs.Blocks.{kids_at}
use Rattle.tree.proofs.Blocks.{block_none, block-is, block-count}
use Rattle.walk.specs.Tasks.{Asked, Task, own_steps, kids_steps}
use Rattle.walk.specs.Children.{BlockHanded}
use Rattle.walk.proofs.Runs.{set-sets}

-- more room than is needed
pub wider : {starts list counts steps : List ℕ} {j left at room more : ℕ} → room ≤ more → Task starts list counts j left at room steps
    → Task starts list counts j left at more steps
wider h k = record { asks = let a = k.asks in record { laid = a.laid; known = a.known; count = a.count; fits = omega arith }; some = k.some }

-- a count of 0 has no steps
pub no_steps : (l : List ℕ) → length l ≡ 0 → l ≡ []
no_steps [] e = refl
no_steps (x ∷ l) e = absurd (omega arith)

-- without columns nothing is written
pub no-columns : {starts list counts steps : List ℕ} {j left at room : ℕ} → Asked starts list counts j left at room steps → left ≡ 0
    → (d : List ℕ) → d ≡ sets d at steps
no-columns {steps = steps} a z d = let none = no_steps steps (omega (arith, a.count)) in rw none refl

-- once c's steps are written, all of j's are
pub record Down (starts list counts : List ℕ) (j left : ℕ) (d₀ : List ℕ) (at : ℕ) (d : List ℕ) (c size a : ℕ) : Type 0 where
  pub task : Task starts list counts c size a (at + left) (own_steps starts list c)
  pub after : at ≤ a
  pub stored : sets d a (own_steps starts list c) ≡ sets d₀ at (own_steps starts list j)
  pub long : length d ≡ length d₀
  pub room : at + left ≤ length d₀

module _ {starts list counts d₀ d : List ℕ} {j left at c size a : ℕ} (inv : Down starts list counts j left d₀ at d c size a) where
  -- c is a column, since 0 has no steps
  down-some : 0 < c
  down-some = positive c inv.task.asks.count inv.task.some
    where
      positive : (x : ℕ) → size ≡ length (own_steps starts list x) → 0 < size → 0 < x
      positive zero e l = absurd (omega (arith, rw (block_none (kids_at starts list)) at e))
      positive (suc x) e l = omega arith

  -- a column's count is one more than its children's
  pub down-size : size ≡ length (kids_steps starts list c) + 1
  down-size = inv.task.asks.count ∙ block-count (kids_at starts list) inv.task.asks.laid.lower c down-some

  pub down-last : a + size ≤ length d
  down-last = omega (arith, inv.task.asks.fits, inv.long, inv.room)

  -- the column's own step comes last, after the steps of its children
  last_stored : sets (set d (a + size - 1) c) a (kids_steps starts list c) ≡ sets d a (own_steps starts list c)
  last_stored =
      let s = down-size in
      let before = kids_steps starts list c in
      let e : a + size - 1 ≡ a + length before = omega arith in
      rw (e, block-is (kids_at starts list) inv.task.asks.laid.lower c down-some, sets-append before d a (c ∷ []))
      (set-sets before d a (a + length before) c (omega arith))

  -- a block of one is a leaf: its children take no steps, so storing its own step writes all
  pub down-leaf : size ≤ 1 → set d a c ≡ sets d₀ at (own_steps starts list j)
  down-leaf one =
      let none = no_steps (kids_steps starts list c) (omega (arith, down-size)) in
      let e : a + size - 1 ≡ a = omega (arith, down-size) in
      rw (none, e) at last_stored ∙ inv.stored

  module _ (more : 1 < size) where
    pub down-task : Task starts list counts c (size - 1) a (length (set d (a + size - 1) c)) (kids_steps starts list c)
    down-task =
        let s = down-size in
        let l = down-last in
        let k = inv.task.asks in
        record {
          asks = record { laid = k.laid; known = k.known; count = omega arith; fits = omega (arith, length-set d (a + size - 1) c) };
          some = omega arith;
        }

    -- the child that is handed back is all that is left
    pub down_turn : {d' : List ℕ} {c' size' a' : ℕ} → BlockHanded starts list counts c (size - 1) (set d (a + size - 1) c) a d' c' size' a'
        → length d' ≡ length (set d (a + size - 1) c) → Down starts list counts j left d₀ at d' c' size' a'
    down_turn h n =
        let f = inv.task.asks.fits in
        record {
          task = wider (omega arith) h.asks;
          after = omega (arith, inv.after, h.within.0);
          stored = h.writes ∙ (last_stored ∙ inv.stored);
          long = n ∙ (length-set d (a + size - 1) c ∙ inv.long);
          room = inv.room;
        }
