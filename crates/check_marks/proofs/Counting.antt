-- Proves the count of the rows of R(m + 1): the marked rows and what the children left hand on make R(m + 1), and the count is the number of marked
-- rows.
-- Assumes nothing.
use Prim.Native.Nat.{ℕ, ◌+◌, ◌<◌, ◌≤◌}
use mathlib.Core.Path.{◌≡◌, refl, ap, ◌∙◌}
use mathlib.Core.Logic.{◌≢◌}
use mathlib.Core.List.Memᴰ
use mathlib.Core.List.{List}
use native.Mathlib.Omega.{arith}
use lib.ListN.{length, get_or}
use Rattle.papers.specs.Lists.{◌∈◌, Asc, merge}
use Rattle.papers.specs.Job.{Pattern, Below, column_of}
use Rattle.papers.specs.Fill.{R}
use Rattle.list_laws.proofs.Ascending.{asc-above, asc-distinct}
use Rattle.list_laws.proofs.Merges.{nil-merge}
use Rattle.fill_laws.proofs.Fill.{R-range}
use Rattle.column_laws.proofs.Chains.{chain-end}
use Rattle.linked_children.specs.Children.{StoredChild, handed_rows, Siblings}
use Rattle.linked_children.proofs.Picking.{Further, further, siblings-ext}
use Rattle.child_lists.specs.Marks.{marked, Changed}
use Rattle.child_lists.specs.Joining.{Makes}
use Rattle.child_lists.proofs.Marks.{changed-none, changed-more, changed-marked}
use Rattle.child_lists.proofs.Making.{makes-join, makes-end, makes-few}
use Rattle.column_list.specs.Hung.{hung}
use Rattle.column_list.specs.Stored.{Next}
use Rattle.column_list.proofs.Gathering.{below, siblings, found-child}
use Rattle.column_list.proofs.Owns.{own-asc, own-makes, own-markable, own-change}
use Rattle.check_marks.specs.Marked.{new_rows, MarkableOnce, MarkedNew, MarkedAre, Counted}
use Rattle.check_marks.proofs.Marked.{marked-none, marked_more, marked-count}

-- marking the rows of a list above j changes only marks
marks-change : {n j : ℕ} {w : List ℕ} (l w' : List ℕ) → Asc j l → w' ≡ marked n j l w → Changed n j w w'
marks-change {n} {j} {w} l w' a e = rw e (changed-marked n j l w (λ i t. omega (arith, asc-above j l a t)))

-- the children from c on are left, and acc is marked
pub record Counting (n m : ℕ) (A : Pattern) (fs fr w₀ w : List ℕ) (c count : ℕ) : Type 0 where
  pub good : Below n A
  pub left : List ℕ
  pub siblings : Siblings n c fs w left
  pub ends : (d : ℕ) → d ∈ left → get_or fs d 0 ≤ length fr
  pub acc : List ℕ
  pub makes : Makes (m + 1) (handed_rows fs fr) left acc (R A (m + 1))
  pub marks : MarkedAre n (m + 1) w acc
  pub counted : count ≡ length acc
  pub changed : Changed n (m + 1) w₀ w
  pub long : length w ≡ length w₀
  pub room : n + n + n < length w

-- ---- the pattern rows

module _ {n m : ℕ} {starts rows fs fr w own : List ℕ} (g : Next n m starts rows fs fr w) (o : own ≡ column_of starts rows (m + 1)) where
  abbrev A : Pattern
  A = column_of starts rows

  pub own-once : MarkableOnce n own w
  own-once = record { once = asc-distinct (m + 1) own (own-asc g o); markable = own-markable g o }

  -- marks and counts them
  module _ {w₁ : List ℕ} {count : ℕ} (e : MarkedNew n (m + 1) own w w₁ count) where
    pub own-changed : Changed n (m + 1) w w₁
    own-changed = own-change g o e.marks

    pub count-begin : length w₁ ≡ length w → Counting n m A fs fr w₁ w₁ (get_or w₁ (m + 1) 0) count
    count-begin lw =
        let none = marked-none n (m + 1) w (λ i h. omega (arith, g.stored.fresh (n + n + i) (omega arith))) in
        let are : MarkedAre n (m + 1) w₁ own = rw e.marks (rw (nil-merge own) at (marked_more none own own-once.markable)) in
        let many : length own ≡ 0 + length (new_rows n (m + 1) w own) = rw (nil-merge own) at (marked-count none own tt (own-asc g o)) in
        record {
          good = below g;
          left = hung A m (m + 1);
          siblings = rw (own-changed.links (m + 1) (omega (arith, g.column))) (siblings-ext w₁ (siblings g) own-changed.links lw);
          ends = λ d t. (found-child g d t).stands.ends;
          acc = own;
          makes = own-makes g o;
          marks = are;
          counted = omega (arith, e.counts, many);
          changed = changed-none n (m + 1) w₁;
          long = refl;
          room = rw lw g.stored.work-long;
        }

-- ---- a child

module _ {n m : ℕ} {A : Pattern} {fs fr w₀ w : List ℕ} {c count : ℕ} (s : Counting n m A fs fr w₀ w c count) where
  pub count-few : count ≤ n
  count-few = rw s.counted (makes-few (λ i t. (R-range s.good (m + 1) i t).1) s.makes)

  module _ (h : c ≢ 0) where
    on : Further n c fs w s.left
    on = further s.siblings h

    here : c ∈ s.left
    here = rw on.is (Memᴰ.head refl)

    pub child-at : StoredChild c fs fr
    child-at = record { child = on.child; ends = s.ends c here }

    pub link : n + c < length w
    link = omega (arith, s.siblings.links, on.most)

    module _ {more : List ℕ} (e : more ≡ handed_rows fs fr c) where
      more-asc : Asc (m + 1) more
      more-asc = rw e (s.makes.asc-hands c here)

      pub more-once : MarkableOnce n more w
      more-once =
          record {
            once = asc-distinct (m + 1) more more-asc;
            markable = record { most = λ i t. (R-range s.good (m + 1) i (s.makes.hands_in c i here (rw e at t))).1; long = s.room };
          }

      module _ {w₁ : List ℕ} {k : ℕ} (q : MarkedNew n (m + 1) more w w₁ k) where
        change : Changed n (m + 1) w w₁
        change = marks-change more w₁ more-asc q.marks

        same-link : get_or w₁ (n + c) 0 ≡ get_or w (n + c) 0
        same-link = change.links (n + c) (omega (arith, on.most))

        pub falls : get_or w₁ (n + c) 0 < c
        falls = rw same-link on.falls

        joined : Makes (m + 1) (handed_rows fs fr) on.rest (merge s.acc more) (R A (m + 1))
        joined = rw e (makes-join (rw on.is at s.makes))

        pub count_turn : length w₁ ≡ length w → Counting n m A fs fr w₀ w₁ (get_or w₁ (n + c) 0) (count + k)
        count_turn lw =
            record {
              good = s.good;
              left = on.rest;
              siblings = rw same-link (siblings-ext w₁ on.siblings change.links lw);
              ends = λ d t. s.ends d (rw on.is (Memᴰ.tail t));
              acc = merge s.acc more;
              makes = joined;
              marks = rw q.marks (marked_more s.marks more more-once.markable);
              counted = omega (arith, s.counted, q.counts, marked-count s.marks more s.makes.asc more-asc);
              changed = changed-more w₁ s.changed change;
              long = lw ∙ s.long;
              room = rw lw s.room;
            }

  -- all rows are counted
  pub count-stop : {w₁ : List ℕ} → Changed n (m + 1) w₁ w₀ → c ≡ 0 → Counted n m A w₁ w count
  count-stop {w₁} g z =
      let whole = makes-end (rw (chain-end w n c s.left s.siblings.chain z) at s.makes) in
      record { counts = s.counted ∙ ap length whole; marks = rw whole at s.marks; changed = changed-more w g s.changed }
