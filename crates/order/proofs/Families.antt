-- Proves that what holds of the columns 1 to n, by parents and factor starts, holds of every number, since any other number has no rows and no
-- parent.
-- Assumes nothing.
use Prim.Native.Nat.{ℕ, zero, suc, ◌+◌, ◌<◌, ◌≤◌}
use mathlib.Core.Path.{◌≡◌, refl, sym, fun_ext, ◌∙◌}
use mathlib.Core.Logic.{◌⊎◌, inl, inr, ◌↔◌}
use mathlib.Core.List.{List, []}
use native.Mathlib.Omega.{arith}
use lib.Dec.{eqb}
use lib.ListN.{length, get_or, get_or-eq_default}
use borrow.Author.Tests.{ne_eqb}
use Rattle.papers.specs.Bounds.{max_columns}
use Rattle.papers.specs.Lists.{up_to}
use Rattle.papers.specs.Tree.{children}
use Rattle.list_laws.proofs.Tests.{below_or}
use Rattle.list_laws.proofs.Keeps.{keep-none}
use Rattle.list_laws.proofs.Slices.{slice-none}
use Rattle.order_laws.specs.Subtrees.{Kin}
use Rattle.order_laws.proofs.Subtrees.{children-are}
use Rattle.tree.specs.Parents.{parent_in, TreeIn, kids_in}
use Rattle.tree.specs.Blocks.{kids_at}
use Rattle.tree.specs.Laid.{Lie}
use Rattle.tree.proofs.Children.{kids-lower, parent_is}
use Rattle.tree.proofs.Blocks.{kids-are}
use Rattle.room.specs.Rows.{row_count_in, ColumnStarts}
use Rattle.order.specs.Given.{Rowed}
use Rattle.siblings.specs.Arranged.{Family}
use Rattle.order.proofs.Marked.{steps-short}

module _ {parents factor : List ℕ} (rowed : Rowed parents factor) where
  abbrev n : ℕ
  n = length parents

  pub column-of : (j : ℕ) → 0 < j → j ≤ n → ColumnStarts factor j
  unfolding row_count_in
  column-of j l u = record { some = l; known = omega (arith, rowed.starts); rise = rowed.rise j l u; few = omega (arith, rowed.few j l u) }

  no_rows : (j : ℕ) → n < j → row_count_in factor j ≡ 0
  unfolding row_count_in
  no_rows j h = let past : length factor ≤ j = omega (arith, rowed.starts) in omega (arith, get_or-eq_default factor 0 past)

  no-parent : (j : ℕ) → n < j → parent_in parents j ≡ 0
  no-parent zero h = absurd (omega arith)
  no-parent (suc i) h = let past : length parents ≤ i = omega arith in parent_is parents i ∙ get_or-eq_default parents 0 past

  -- no column has more rows than the greatest number of columns
  pub rows_few : (j : ℕ) → row_count_in factor j ≤ max_columns
  unfolding row_count_in
  rows_few zero = omega arith
  rows_few (suc i) = go (below_or n (suc i))
    where
      go : (n < suc i) ⊎ (suc i ≤ n) → row_count_in factor (suc i) ≤ max_columns
      go (inl h) = omega (arith, no_rows (suc i) h)
      go (inr h) = rowed.few (suc i) (omega arith) h

  -- a column has no rows exactly if it has no parent
  pub roots-all : (j : ℕ) → (row_count_in factor j ≡ 0) ↔ (parent_in parents j ≡ 0)
  unfolding row_count_in parent_in
  roots-all zero = (λ e. refl, λ e. omega arith)
  roots-all (suc i) = go (below_or n (suc i))
    where
      go : (n < suc i) ⊎ (suc i ≤ n) → (row_count_in factor (suc i) ≡ 0) ↔ (parent_in parents (suc i) ≡ 0)
      go (inl h) = (λ e. no-parent (suc i) h, λ e. no_rows (suc i) h)
      go (inr h) = rowed.roots (suc i) (omega arith) h

  -- children are lower columns and have rows
  pub kin-of : Kin (row_count_in factor) (kids_in parents)
  kin-of =
      record {
        lower = kids-lower parents rowed.tree;
        update = λ j c z m. let (l, u, e) = (children-are (parent_in parents) n j c).0 m in rows c
            (omega arith) (row_count_in factor c) refl;
      }
    where
      rows : (c : ℕ) → 0 < parent_in parents c → (r : ℕ) → row_count_in factor c ≡ r → 0 < r
      rows c h zero e = absurd (omega (arith, (roots-all c).0 e))
      rows c h (suc r) e = omega arith

  pub family-of : (mark : ℕ) → n ≤ max_columns → Family mark factor (kids_in parents) n
  family-of mark h = record { kin = kin-of; column = column-of; rows = rows_few; short = steps-short rowed.tree mark (row_count_in factor); few = h }

-- ---- lists that follow one another are those of the children, for every number
module _ (parents : List ℕ) {starts list : List ℕ} (tree : TreeIn parents) (lie : Lie (kids_in parents) (length parents) starts list)
    (long : length starts ≡ length parents + 2) where
  -- past the last column there is none
  pub lists-end : (l : List ℕ) (j : ℕ) → length parents < j → kids_at starts l j ≡ []
  lists-end l j h =
      let past : length starts ≤ j + 1 = omega arith in
      rw (kids-are starts l j, get_or-eq_default starts 0 past) (slice-none (get_or starts j 0) 0 l (omega arith))

  pub kids-end : (j : ℕ) → length parents < j → kids_in parents j ≡ []
  unfolding children
  kids-end j h =
      keep-none (λ c. eqb (parent_in parents c) j) (up_to (length parents)) (λ c m. ne_eqb (parent_in parents c) j (λ e. omega (arith, tree.within c)))

  same_at : (j : ℕ) → kids_at starts list j ≡ kids_in parents j
  same_at j = go (below_or (length parents) j)
    where
      go : (length parents < j) ⊎ (j ≤ length parents) → kids_at starts list j ≡ kids_in parents j
      go (inl h) = lists-end list j h ∙ sym (kids-end j h)
      go (inr h) = lie.same j h

  pub lists-are : kids_at starts list ≡ (λ j. kids_in parents j)
  lists-are = fun_ext same_at
