-- Proves one turn of the loop over a column's children: either all rows that child d hands on are marked already, or they are joined and marked.
-- Assumes nothing.
use Prim.Native.Nat.{ℕ, ◌+◌, ◌-◌, ◌<◌, ◌≤◌}
use mathlib.Core.Path.{◌≡◌, refl, sym, ap, ◌∙◌}
use mathlib.Core.Logic.{◌≢◌}
use mathlib.Core.Bool.{true}
use mathlib.Core.List.Memᴰ
use mathlib.Core.List.{List, ◌∷◌}
use native.Mathlib.Omega.{arith}
use lib.ListN.{length, get_or}
use Rattle.papers.specs.Lists.{◌∈◌, merge, every}
use Rattle.list_laws.proofs.Ascending.{asc-above}
use Rattle.list_laws.proofs.Merges.{merge-left, merge-right}
use Rattle.linked_children.specs.Children.{handed_rows, StoredChild}
use Rattle.linked_children.proofs.Picking.{Further, further, siblings-ext}
use Rattle.child_lists.specs.Marks.{marked, is_marked, Markable, Changed}
use Rattle.child_lists.specs.Buffers.{list_in_turn, Holds, Roomy}
use Rattle.child_lists.specs.Joining.{Makes}
use Rattle.child_lists.proofs.Marks.{marks-sound, changed-more, changed-marked, covered-in}
use Rattle.child_lists.proofs.Making.{makes-join, makes-skip, makes-few}
use Rattle.child_lists.proofs.Joining.{State}

module _ {n j c len : ℕ} {fs fr w₀ x₀ y₀ w x y : List ℕ} {d turn count : ℕ} (s : State n j c len fs fr w₀ x₀ y₀ w x y d turn count) (h : d ≢ 0) where
  next : Further n d fs w s.left
  next = further s.siblings h

  pub falls : get_or w (n + d) 0 < d
  falls = next.falls

  here : d ∈ s.left
  here = rw next.is (Memᴰ.head refl)

  pub child-at : StoredChild d fs fr
  child-at = record { child = next.child; ends = s.begun.ends d (s.left_in d here) }

  link : n + d < length w
  link = omega (arith, s.siblings.links, next.most)

  pub link-first : n + d < length w₀
  link-first = rw (← s.long-w) link

  positive : (i : ℕ) → i ∈ handed_rows fs fr d → 1 ≤ i
  positive i m = omega (arith, asc-above j (handed_rows fs fr d) (s.makes.asc-hands d here) m)

  makes : Makes j (handed_rows fs fr) (d ∷ next.rest) (list_in_turn turn count x y) s.whole
  makes = rw next.is at s.makes

  -- the rows that d hands on
  module _ {more : List ℕ} (e : more ≡ handed_rows fs fr d) where
    new_row : (i : ℕ) → i ∈ more → i ∈ s.whole
    new_row i m = s.makes.hands_in d i here (rw e at m)

    pub markable : Markable n more w
    markable = record { most = λ i m. s.begun.most i (new_row i m); long = rw s.long-w s.begun.room-work }

    pub roomy : Roomy turn count more x y
    roomy =
        let a = makes-few s.begun.most s.makes in
        let b = makes-few s.begun.most (makes-join makes) in
        let k = s.size in
        let rx = s.begun.room-x in
        let ry = s.begun.room-y in
        let lx = s.long-x in
        let ly = s.long-y in
        record { list-x = omega arith; list-y = omega arith; joined-x = rw e (omega arith); joined-y = rw e (omega arith) }

    -- if all its rows are marked
    pub passes_over : true ≡ every (is_marked n j w) more → State n j c len fs fr w₀ x₀ y₀ w x y (get_or w (n + d) 0) turn count
    passes_over q =
        record {
          children = s.children;
          whole = s.whole;
          begun = s.begun;
          left = next.rest;
          left_in = λ k m. s.left_in k (rw next.is (Memᴰ.tail m));
          siblings = next.siblings;
          makes = makes-skip makes (λ i m. covered-in n j more w (list_in_turn turn count x y) (sym q) s.sound i (positive i m) (rw e m));
          size = s.size;
          sound = s.sound;
          turns = s.turns;
          changed = s.changed;
          long-w = s.long-w;
          long-x = s.long-x;
          long-y = s.long-y;
        }

    -- else its rows are marked
    module _ {w' : List ℕ} (f : w' ≡ marked n j more w) where
      change : Changed n j w w'
      change = rw f (changed-marked n j more w (λ i m. positive i (rw e at m)))

      next-link : get_or w' (n + d) 0 ≡ get_or w (n + d) 0
      next-link = change.links (n + d) (omega (arith, next.most))

      pub falls-marked : get_or w' (n + d) 0 < d
      falls-marked = rw next-link falls

      -- and they are joined
      pub joins : {x' y' : List ℕ} {count' : ℕ} → Holds (1 - turn) count' x' y' (merge (list_in_turn turn count x y) more)
          → length x' ≡ length x → length y' ≡ length y → length w' ≡ length w
          → State n j c len fs fr w₀ x₀ y₀ w' x' y' (get_or w' (n + d) 0) (1 - turn) count'
      joins q lx ly lw =
          record {
            children = s.children;
            whole = s.whole;
            begun = s.begun;
            left = next.rest;
            left_in = λ k m. s.left_in k (rw next.is (Memᴰ.tail m));
            siblings = rw next-link (siblings-ext w' next.siblings change.links lw);
            makes = rw (q.list, e) (makes-join makes);
            size = ap length q.list ∙ sym q.count;
            sound = rw (q.list, f) (marks-sound n j more w (list_in_turn turn count x y) (merge (list_in_turn turn count x y) more) s.sound
                (λ i m. merge-left (list_in_turn turn count x y) more m) (λ i m. merge-right (list_in_turn turn count x y) more m));
            turns = omega arith;
            changed = changed-more w' s.changed change;
            long-w = lw ∙ s.long-w;
            long-x = lx ∙ s.long-x;
            long-y = ly ∙ s.long-y;
          }
