-- Proves how the siblings' task goes on: one block is kept back, the siblings from place i on are left, and with both all is written. Of two blocks
-- the task does the smaller, which has fewer steps than all siblings together.
-- Assumes nothing.
use Prim.Native.Nat.{ℕ, ◌+◌, ◌^◌, ◌<◌, ◌≤◌}
use mathlib.Core.Path.{◌≡◌, refl, ◌∙◌}
use mathlib.Core.List.{List}
use native.Mathlib.Omega.{arith}
use lib.ListN.{length, get_or}
use lib.Seq.{sets, length-sets}
use Rattle.walk.specs.Tasks.{Task, own_steps, kids_steps}
use Rattle.walk.specs.Children.{ChildListed, ChildBlock, BlockHanded}
use Rattle.walk.proofs.Runs.{sets-comm}
use Rattle.walk.proofs.Down.{wider, no_steps}
use Rattle.walk.proofs.Later.{later_steps, Later, all-steps, all-later, child-inside, child-listed, others, child-task, child-lower, both}

pub record OneKept (starts list counts : List ℕ) (j left : ℕ) (d₀ : List ℕ) (at : ℕ) (d : List ℕ) (i a kept size first : ℕ) : Type 0 where
  pub later : Later starts list counts j (at + left) i a
  pub task : Task starts list counts kept size first a (own_steps starts list kept)
  pub lower : 0 < j → kept < j
  pub after : at ≤ first
  pub stored : sets (sets d first (own_steps starts list kept)) a (later_steps starts list j i) ≡ sets d₀ at (kids_steps starts list j)
  pub long : length d ≡ length d₀
  pub room : at + left ≤ length d₀

-- how many of the siblings' steps the block kept and the child at place i take; `end` is behind the last step
pub record Two (list : List ℕ) (i left end size count a : ℕ) : Type 0 where
  pub inside : i < length list
  pub kept : 0 < size
  pub next : 0 < count
  pub two : size + count ≤ left
  pub last : a + count ≤ end

-- ---- the first child is kept
module _ {starts list counts : List ℕ} {j left at room : ℕ} (task : Task starts list counts j left at room (kids_steps starts list j)) where
  begun : Later starts list counts j (at + left) (get_or starts j 0) at
  begun = all-later task.asks

  steps-left : at < at + left
  steps-left = omega (arith, task.some)

  pub first-listed : at + left < 2 ^ 64 → ChildListed list counts (get_or starts j 0)
  first-listed = child-listed begun steps-left

  pub first_fits : {c size first : ℕ} → ChildBlock list counts (get_or starts j 0) at c size first → at + size ≤ at + left
  first_fits r = omega (arith, (others begun steps-left r).place)

  pub first-kept : {d₀ : List ℕ} {c size first : ℕ} → room ≤ length d₀ → ChildBlock list counts (get_or starts j 0) at c size first
      → OneKept starts list counts j left d₀ at d₀ (get_or starts j 0 + 1) (at + size) c size first
  first-kept {d₀} fits r = record {
    later = others begun steps-left r;
    task = child-task begun steps-left r (omega arith);
    lower = child-lower begun steps-left r;
    after = omega (arith, r.begins);
    stored = rw (all-steps starts list j) at (both begun steps-left r d₀);
    long = refl;
    room = omega (arith, task.asks.fits);
  }

module _
    {starts list counts d₀ d : List ℕ}
    {j left at i a kept size first : ℕ}
    (inv : OneKept starts list counts j left d₀ at d i a kept size first)
  where
    -- all siblings are done: only the block kept is left
    pub kept-stop : at + left ≤ a → BlockHanded starts list counts j left d₀ at d kept size first
    kept-stop h =
        let none = no_steps (later_steps starts list j i) (omega (arith, inv.later.place)) in
        record {
          asks = wider (omega (arith, inv.later.place)) inv.task;
          within = (inv.after, inv.lower);
          writes = rw none at inv.stored;
        }

    module _ (more : a < at + left) where
      pub next-listed : at + left < 2 ^ 64 → ChildListed list counts i
      next-listed = child-listed inv.later more

      -- ---- the next child's block as it was read
      module _ {c count place : ℕ} (r : ChildBlock list counts i a c count place) where
        behind : Later starts list counts j (at + left) (i + 1) (a + count)
        behind = others inv.later more r

        -- the siblings' steps contain both blocks
        pub two-fit : Two list i left (at + left) size count a
        two-fit =
            let f = inv.task.asks.fits in
            record {
              inside = child-inside inv.later more;
              kept = inv.task.some;
              next = omega (arith, r.counted);
              two = omega (arith, behind.place, inv.after);
              last = omega (arith, behind.place);
            }

        -- so either block can be done
        pub next-task : Task starts list counts c count place (length d) (own_steps starts list c)
        next-task = child-task inv.later more r (omega (arith, two-fit, inv.long, inv.room))

        -- the child is done, the one kept stays
        pub next-kept : {d' : List ℕ} → d' ≡ sets d place (own_steps starts list c)
            → OneKept starts list counts j left d₀ at d' (i + 1) (a + count) kept size first
        next-kept {d'} q =
            let own = own_steps starts list c in
            let kept-steps = own_steps starts list kept in
            record {
              later = behind;
              task = wider (omega arith) inv.task;
              lower = inv.lower;
              after = inv.after;
              stored =
                  rw (q, sets-comm own kept-steps d first place (omega (arith, r.begins, inv.task.asks.fits, inv.task.asks.count)))
                  (both inv.later more r (sets d first kept-steps) ∙ inv.stored);
              long = rw q (length-sets d place own ∙ inv.long);
              room = inv.room;
            }

        -- the one kept is done, the child is kept
        pub child-kept : {d' : List ℕ} → d' ≡ sets d first (own_steps starts list kept)
            → OneKept starts list counts j left d₀ at d' (i + 1) (a + count) c count place
        child-kept q = record {
          later = behind;
          task = child-task inv.later more r (omega arith);
          lower = child-lower inv.later more r;
          after = omega (arith, r.begins, inv.after, inv.task.asks.fits);
          stored = rw q (both inv.later more r (sets d first (own_steps starts list kept)) ∙ inv.stored);
          long = rw q (length-sets d first (own_steps starts list kept) ∙ inv.long);
          room = inv.room;
        }
