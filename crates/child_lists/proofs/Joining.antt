-- Proves the loop over a column's children from its first turn to its last: the rows joined and the children left make the whole list, every marked
-- row is joined, and only marks change.
-- Assumes nothing.
use Prim.Native.Nat.{ℕ, ◌≤◌}
use mathlib.Core.Path.{◌≡◌, refl, sym, ap, ◌∙◌}
use mathlib.Core.List.{List}
use native.Mathlib.Omega.{arith}
use lib.ListN.{length, take}
use lib.Seq.{length-take-le}
use Rattle.papers.specs.Lists.{◌∈◌}
use Rattle.column_laws.proofs.Chains.{chain-end, chain-only}
use Rattle.linked_children.specs.Children.{handed_rows, Siblings}
use Rattle.child_lists.specs.Marks.{MarkedWithin, Changed}
use Rattle.child_lists.specs.Buffers.{list_in_turn, Holds}
use Rattle.child_lists.specs.Joining.{Makes, ListBegun, Joining, ChildrenJoined}
use Rattle.child_lists.proofs.Marks.{changed-none}
use Rattle.child_lists.proofs.Buffers.{first-buffer}
use Rattle.child_lists.proofs.Making.{makes-end, makes-only}

-- the children from d on are left
pub record State (n j c len : ℕ) (fs fr w₀ x₀ y₀ w x y : List ℕ) (d turn count : ℕ) : Type 0 where
  pub children : List ℕ
  pub whole : List ℕ
  pub begun : ListBegun n j c len fs fr w₀ x₀ y₀ children whole
  pub left : List ℕ
  pub left_in : (e : ℕ) → e ∈ left → e ∈ children
  pub siblings : Siblings n d fs w left
  pub makes : Makes j (handed_rows fs fr) left (list_in_turn turn count x y) whole
  pub size : length (list_in_turn turn count x y) ≡ count
  pub sound : MarkedWithin n j w (list_in_turn turn count x y)
  pub turns : turn ≤ 1
  pub changed : Changed n j w₀ w
  pub long-w : length w ≡ length w₀
  pub long-x : length x ≡ length x₀
  pub long-y : length y ≡ length y₀

pub begin : {n j c len : ℕ} {fs fr w x y : List ℕ} → Joining n j c len fs fr w x y → State n j c len fs fr w x y w x y c 0 len
begin {n} {j} {c} {len} {fs} {fr} {w} {x} {y} g =
    let b = g.begun in
    let e = first-buffer 0 x y refl in
    record {
      children = g.children;
      whole = g.whole;
      begun = b;
      left = g.children;
      left_in = λ d m. m;
      siblings = b.siblings;
      makes = rw e b.makes;
      size = rw e (length-take-le len x b.few);
      sound = rw e b.sound;
      turns = omega arith;
      changed = changed-none n j w;
      long-w = refl;
      long-x = refl;
      long-y = refl;
    }

module _ {n j c len : ℕ} {fs fr w₀ x₀ y₀ w x y : List ℕ} {d turn count : ℕ} (s : State n j c len fs fr w₀ x₀ y₀ w x y d turn count) where
  pub stop : d ≡ 0 → ChildrenJoined n j c len fs fr w₀ x₀ y₀ turn count w x y
  stop z = record { list = λ children whole b. same children whole b; changed = s.changed }
    where
      done : list_in_turn turn count x y ≡ s.whole
      done = makes-end (rw (chain-end w n d s.left s.siblings.chain z) at s.makes)

      same : (children whole : List ℕ) → ListBegun n j c len fs fr w₀ x₀ y₀ children whole → Holds turn count x y whole
      same children whole b =
          let k = chain-only w₀ n c s.children children s.begun.siblings.chain b.siblings.chain in
          let m : Makes j (handed_rows fs fr) children (take len x₀) s.whole = rw k at s.begun.makes in
          let q = makes-only m b.makes in
          record { count = sym s.size ∙ ap length (done ∙ q); list = done ∙ q }
