-- Proves that the two parts of work, the steps and the counts, judge the columns, and that the least stray step is the answer.
-- Assumes nothing.
use Prim.Native.Nat.{ℕ, ◌+◌, ◌-◌, ◌≤◌}
use mathlib.Core.Path.{◌≡◌, ap, ◌∙◌}
use mathlib.Core.List.{List, ◌++◌}
use native.Mathlib.Omega.{arith}
use lib.ListN.{length, take, drop, length-append, length-drop}
use lib.Seq.{length-take-le}
use borrow.Rule.Slice.PartMut.{put_mid}
use Rattle.std.specs.Prelude.{Option}
use Rattle.papers.specs.Lists.{least}
use Rattle.papers.specs.Order.{column_at_step, scattered}
use Rattle.list_laws.specs.Parts.{part}
use Rattle.list_laws.proofs.Parts.{part_length}
use Rattle.refusals.specs.Answers.{place_if_any}
use Rattle.tree.specs.Parents.{parent_in}
use Rattle.tree.specs.Laid.{Descendants}
use Rattle.tree.proofs.Parts.{start_is, back_is}
use Rattle.check_subtrees.specs.Steps.{number_for, StepOfEach, OrderGiven}
use Rattle.check_subtrees.specs.Strays.{stray_step_of, earliest, Placed}
use Rattle.check_subtrees.proofs.Counts.{order-has, subtree-count, subtree-few}
use Rattle.check_subtrees.proofs.Windows.{Listing, step_range}
use Rattle.check_subtrees.proofs.Strays.{stray-least}

module _ {parents order work : List ℕ} (given : OrderGiven parents order work) where
  abbrev m : ℕ
  m = length parents + 1

  start-long : length (take m work) ≡ m
  start-long = length-take-le m work (omega (arith, given.room))

  module _ {steps below : List ℕ} (stepped : StepOfEach order steps) (counts : Descendants parents below) where
    step_is : (s : ℕ) → 1 ≤ s → s ≤ length parents → number_for steps (column_at_step order s) ≡ s
    unfolding column_at_step
    step_is s l u = stepped.each (s - 1) (omega (arith, given.long)) ∙ omega arith

    listing : Listing (parent_in parents) (length parents) order (number_for steps) (number_for below)
    listing = record {
      tree = given.tree;
      long = given.long;
      each = order-has given.each given.long;
      once = given.each.once;
      stepped = step_is;
      counted = λ j l u. subtree-count parents given.tree j l u below counts;
    }

    placed : length steps ≡ length parents + 1 → length below ≡ length parents + 1 → Placed parents steps below
    placed a b = record {
      tree = given.tree;
      steps-length = a;
      below_length = b;
      steps_from = λ c l u. (step_range listing c l u).0;
      steps_low = λ c l u. omega (arith, step_range listing c l u, given.few);
      below-low = λ c l u.
          omega (arith, subtree-few parents given.tree c l u, subtree-count parents given.tree c l u below counts, given.few);
    }

  -- s came back for the steps, z for the counts
  module _ {s z : List ℕ} (stepped : StepOfEach order s) (counts : Descendants parents z) (start-kept : length s ≡ length (take m work))
      (back-kept : length z ≡ length (part m (m + m) (s ++ drop m work)))
    where
      abbrev both : List ℕ
      both = put_mid m (m + m - m) (s ++ drop m work) z

      at-start : take m both ≡ s
      at-start = start_is work s z m (m + m) (omega arith) (omega (arith, given.room)) start-kept back-kept

      back : part m (m + m) both ≡ z
      back = back_is work s z m (m + m) (omega arith) (omega (arith, given.room)) start-kept back-kept

      start-length : length s ≡ m
      start-length = start-kept ∙ start-long

      back-length : length z ≡ m
      back-length =
          back-kept ∙ (part_length m (m + m) (s ++ drop m work) (omega arith)
          (omega (arith, length-append s (drop m work), length-drop m work, start-length, given.room)) ∙ omega arith)

      pub stray-asked : Placed parents (take m both) (part m (m + m) both)
      stray-asked = rw (at-start, back) (placed stepped counts start-length back-length)

      pub stray-found : {r : Option ℕ}
          → r ≡ place_if_any (earliest (stray_step_of (parent_in parents) (number_for (take m both)) (number_for (part m (m + m) both)))
          (length parents))
          → r ≡ place_if_any (least (scattered (parent_in parents) (length parents) order) (length parents))
      stray-found e = e ∙ ap place_if_any (rw (at-start, back) (stray-least (listing stepped counts)))
