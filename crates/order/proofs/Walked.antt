-- Proves that lists of children arranged by the mark are what the walk requires, and that the walk then writes the order of the mark.
-- Assumes nothing.
use Prim.Native.Nat.{ℕ, zero, suc, ◌+◌, ◌<◌, ◌≤◌}
use mathlib.Core.Path.{◌≡◌, sym, ap, ◌∙◌}
use mathlib.Core.Logic.{◌⊎◌, inl, inr}
use mathlib.Core.List.Memᴰ
use mathlib.Core.List.{List, [], flat_map, append-nil}
use native.Mathlib.Omega.{arith}
use lib.ListN.{length, get_or, drop, drop_of_length-le}
use lib.Seq.{sets, sets-eq}
use Rattle.papers.specs.Bounds.{max_columns}
use Rattle.papers.specs.Lists.{◌∈◌}
use Rattle.list_laws.proofs.Tests.{below_or}
use Rattle.list_laws.proofs.Members.{flat_map-same}
use Rattle.order_laws.proofs.Subtrees.{children-are}
use Rattle.order_laws.proofs.Arranged.{arranged-elements}
use Rattle.order_laws.proofs.Orders.{ordered-length, marked-ordered}
use Rattle.tree.specs.Parents.{parent_in, kids_in}
use Rattle.tree.specs.Blocks.{block_of, blocks, kids_at}
use Rattle.tree.specs.Laid.{Descendants}
use Rattle.tree.proofs.Children.{kids-lower}
use Rattle.tree.proofs.Blocks.{block-count}
use Rattle.walk.specs.Tasks.{Laid, Asked, kids_steps}
use Rattle.room.specs.Rows.{row_count_in}
use Rattle.order.specs.Given.{Rowed, subtree_steps_in, order_in}
use Rattle.siblings.specs.Arranged.{arranged_in}
use Rattle.order.proofs.Marked.{block-marked, steps-count}

-- the lists of children are arranged by the mark, those of the roots ascend, and the descendants of each column are counted
pub record Lists (mark : ℕ) (parents factor starts list counts : List ℕ) : Type 0 where
  pub rowed : Rowed parents factor
  pub few : length parents ≤ max_columns
  pub inside : (j : ℕ) → j ≤ length parents → get_or starts (j + 1) 0 ≤ length list
  pub past : (j : ℕ) → length parents < j → kids_at starts list j ≡ []
  pub lists : (j : ℕ) → 0 < j → j ≤ length parents → kids_at starts list j ≡ arranged_in mark factor (kids_in parents) (length parents) j
  pub roots : kids_at starts list 0 ≡ kids_in parents 0
  pub descendants : Descendants parents counts
  pub long : length starts ≡ length parents + 2
  pub many : length counts ≡ length parents + 1

-- ---- as the walk takes them
module _ {mark : ℕ} {parents factor starts list counts : List ℕ} (lying : Lists mark parents factor starts list counts) where
  abbrev n : ℕ
  n = length parents

  abbrev kids : ℕ → List ℕ
  kids j = kids_in parents j

  member : (j c : ℕ) → j ≤ n → c ∈ kids_at starts list j → c ∈ kids j
  member zero c u m = rw lying.roots at m
  member (suc i) c u m = (arranged-elements mark (row_count_in factor) kids _ (suc i) c).0 (rw (lying.lists (suc i) (omega arith) u) at m)

  lower : (j c : ℕ) → 0 < j → c ∈ kids_at starts list j → (0 < c) × (c < j)
  lower j c l m = go (below_or n j)
    where
      go : (n < j) ⊎ (j ≤ n) → (0 < c) × (c < j)
      go (inl h) = absurd (Memᴰ.not-nil (rw (lying.past j h) at m))
      go (inr h) = kids-lower parents lying.rowed.tree j c l (member j c h m)

  own-steps : (j : ℕ) → 0 < j → j ≤ n → block_of (kids_at starts list) j ≡ subtree_steps_in mark parents factor j
  own-steps = block-marked mark (row_count_in factor) kids (kids_at starts list) n (kids-lower parents lying.rowed.tree) lower lying.lists

  laid : Laid starts list counts
  unfolding block_of
  laid = record {
    few = omega (arith, lying.few, lying.many);
    long = omega (arith, lying.long, lying.many);
    inside = λ j b. lying.inside j (omega (arith, lying.many));
    known = λ j c b m. let (l, u, e) = (children-are (parent_in parents) n j c).0 (member j c (omega (arith, lying.many)) m) in
        (omega arith, omega (arith, lying.many));
    lower = lower;
    counted = λ j l b.
        omega (
          arith,
          lying.descendants.each j (omega (arith, lying.many)),
          block-count kids (kids-lower parents lying.rowed.tree) j l,
          ap length (own-steps j l (omega (arith, lying.many))),
          steps-count lying.rowed.tree mark 0 (row_count_in factor) (λ c. 0) n j j l
              (omega (arith, lying.many)) (omega arith),
        );
  }

  steps-are : kids_steps starts list 0 ≡ order_in mark parents factor
  unfolding blocks
  steps-are =
      ap (flat_map (block_of (kids_at starts list))) lying.roots
      ∙ flat_map-same (block_of (kids_at starts list)) (subtree_steps_in mark parents factor) (kids 0)
      (λ c m. let (l, u, e) = (children-are (parent_in parents) n 0
      c).0 m in own-steps c l u)

  -- what the walk requires
  pub walk-asked : (room : ℕ) → room ≡ n → Asked starts list counts 0 n 0 room (kids_steps starts list 0)
  walk-asked room e = record {
    laid = laid;
    known = omega (arith, lying.many);
    count = omega (
      arith,
      ap length steps-are,
      ordered-length (order_in mark parents factor) (marked-ordered lying.rowed.tree mark (row_count_in factor)),
    );
    fits = omega arith;
  }

  -- what the walk writes
  pub walk-wrote : (order : List ℕ) {order' : List ℕ} → length order ≡ n → order' ≡ sets order 0 (kids_steps starts list 0)
      → order' ≡ order_in mark parents factor
  walk-wrote order e q =
      let steps = order_in mark parents factor in
      let count : length steps ≡ length order = ordered-length steps (marked-ordered lying.rowed.tree mark (row_count_in factor)) ∙ sym e in
      let none : drop (0 + length steps) order ≡ [] = drop_of_length-le order {i = 0 + length steps} (omega arith) in
      q ∙ rw (steps-are, sets-eq steps order 0 (omega arith), none) (append-nil steps)
