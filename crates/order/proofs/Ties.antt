-- Proves that the tree named by the list of parents, and the rows counted by the factor starts, are those of the pattern: for each column by its
-- place, and for any other number since it has no rows and no parent.
-- Assumes nothing.
use Prim.Native.Nat.{ℕ, zero, suc, ◌-◌, ◌<◌, ◌≤◌}
use mathlib.Core.Path.{◌≡◌, sym, ap, ◌∙◌}
use mathlib.Core.Logic.{◌⊎◌, inl, inr}
use mathlib.Core.List.{List, map, flat_map}
use native.Mathlib.Omega.{arith}
use lib.ListN.{length, get_or, get_or-eq_default}
use Rattle.papers.specs.Bounds.{max_columns}
use Rattle.papers.specs.Lists.{up_to, starts_counted_from}
use Rattle.papers.specs.Job.{Pattern, Below}
use Rattle.papers.specs.Fill.{R}
use Rattle.papers.specs.Tree.{parent, row_count, children}
use Rattle.papers.specs.Room.{peak_of}
use Rattle.papers.specs.Order.{steps_of, children_of, pops_of, order_of, order_peak}
use Rattle.papers.specs.Key.{lists_of}
use Rattle.list_laws.proofs.Tests.{below_or}
use Rattle.list_laws.proofs.UpTo.{length-family, family-at}
use Rattle.list_laws.proofs.Stores.{length-starts}
use Rattle.job_laws.proofs.Starts.{start-at}
use Rattle.job_laws.proofs.Laid.{length-lists, lists_at, laid-column, laid-starts, column-length}
use Rattle.order_laws.proofs.Patterns.{tree_of, root-rows, rows_fit}
use Rattle.tree.specs.Parents.{parent_in, kids_in}
use Rattle.room.specs.Rows.{row_count_in}
use Rattle.order.specs.Given.{Rowed, child_count_in, order_in}

-- the slices hold the parents of the columns 1 to n, and the starts of their lists
abbrev pub parents_of : ℕ → Pattern → List ℕ
parents_of n A = map (parent A) (up_to n)

abbrev pub starts_of : ℕ → Pattern → List ℕ
starts_of n A = starts_counted_from 0 (lists_of n (R A))

module _ {n : ℕ} {A : Pattern} (good : Below n A) where
  pub length-parents : length (parents_of n A) ≡ n
  length-parents = length-family (parent A) n

  none_over : (j : ℕ) → n < j → row_count A j ≡ 0
  none_over j h = omega (arith, rows_fit good j)

  pub parents-tie : (j : ℕ) → parent_in (parents_of n A) j ≡ parent A j
  unfolding parent_in
  parents-tie zero = sym (tree_of good).none
  parents-tie (suc k) = go (below_or k n)
    where
      go : (k < n) ⊎ (n ≤ k) → get_or (parents_of n A) k 0 ≡ parent A (suc k)
      go (inl h) = family-at (parent A) n k 0 h
      go (inr h) =
          get_or-eq_default (parents_of n A) 0 {n = k} (omega (arith, length-parents)) ∙ sym
          ((root-rows good (suc k)).0 (none_over (suc k) (omega arith)))

  pub rows-tie : (j : ℕ) → row_count_in (starts_of n A) j ≡ row_count A j
  unfolding row_count_in R
  rows-tie zero = omega arith
  rows-tie (suc k) = let e : suc k - 1 ≡ k = omega arith in rw e (go (below_or k n))
    where
      go : (k < n) ⊎ (n ≤ k) → get_or (starts_of n A) (suc k) 0 - get_or (starts_of n A) k 0 ≡ row_count A (suc k)
      go (inl h) =
          let ls = lists_of n (R A) in
          let short = column-length (laid-starts ls) k (omega (arith, length-lists (R A) n)) in
          let a = start-at (starts_of n A) k in
          let b = start-at (starts_of n A) (suc k) in
          let c = ap length (laid-column ls k (omega (arith, length-lists (R A) n)) ∙ lists_at (R A) n k h) in
          omega arith
      go (inr h) =
          let past = get_or-eq_default (starts_of n A) 0 {n = suc k} (omega (arith, length-starts 0 (lists_of n (R A)), length-lists (R A) n)) in
          omega (arith, none_over (suc k) (omega arith))

  -- ---- as functions, and what is made of them

  same-parents : parent_in (parents_of n A) ≡ parent A
  same-parents i j = parents-tie j i

  same_rows : row_count_in (starts_of n A) ≡ row_count A
  same_rows i j = rows-tie j i

  same-kids : kids_in (parents_of n A) ≡ children_of n A
  same-kids i j = children (same-parents i) (length-parents i) j

  pub same-order : (mark : ℕ) → order_in mark (parents_of n A) (starts_of n A) ≡ order_of mark n A
  unfolding order_of
  same-order mark i = flat_map (steps_of mark (same_rows i) (same-kids i) (length-parents i)) (same-kids i 0)

  pub same-pops : child_count_in (parents_of n A) ≡ pops_of n A
  same-pops i j = length (same-kids i j)

  pub same-peak : (mark : ℕ) → peak_of (row_count_in (starts_of n A)) (child_count_in (parents_of n A))
      (order_in mark (parents_of n A) (starts_of n A)) ≡ order_peak n A
      (order_of mark n A)
  unfolding order_peak
  same-peak mark i = peak_of (same_rows i) (same-pops i) (same-order mark i)

  -- ---- so the order can be made from them

  pub rowed : n ≤ max_columns → Rowed (parents_of n A) (starts_of n A)
  rowed few =
      record {
        tree = rw (same-parents, length-parents) (tree_of good);
        starts = length-starts 0 (lists_of n (R A)) ∙ omega (arith, length-lists (R A) n, length-parents);
        rise = rises;
        few = λ j l h. omega (arith, rows-tie j, rows_fit good j);
        roots = λ j l h. rw (rows-tie j, parents-tie j) (root-rows good j);
      }
    where
      rises : (j : ℕ) → 0 < j → j ≤ length (parents_of n A) → get_or (starts_of n A) (j - 1) 0 ≤ get_or (starts_of n A) j 0
      rises zero l h = absurd (omega arith)
      rises (suc k) l h =
          let e : suc k - 1 ≡ k = omega arith in
          rw (e, ← start-at (starts_of n A) k, ← start-at (starts_of n A) (suc k)) ((laid-starts (lists_of n (R A))).rising (suc k) (omega arith)
          (omega (arith, length-lists (R A) n, length-parents)))
