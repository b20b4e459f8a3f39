-- Proves which rows a column has, by the tree: i is a row of column k exactly when the pattern has i at a column of the subtree of k and k
-- is below i. A row climbs from parent to parent until the parent is the row itself.
-- Assumes nothing.
use Prim.Native.Nat.{ℕ, zero, suc, ◌+◌, ◌<◌, ◌≤◌}
use mathlib.Core.Path.{◌≡◌}
use mathlib.Core.Logic.{◌⊎◌, inl, inr, ◌↔◌}
use native.Mathlib.Omega.{arith}
use native.Mathlib.Nat.{eq-or-lt_of_le}
use Rattle.papers.specs.Lists.{◌∈◌}
use Rattle.papers.specs.Job.{Pattern, Below}
use Rattle.papers.specs.Fill.{R}
use Rattle.papers.specs.Tree.{parent, Under, top, up}
use Rattle.fill_laws.specs.Rows.{Reached}
use Rattle.list_laws.proofs.Tests.{strong}
use Rattle.fill_laws.proofs.Fill.{Earlier, R-range, R-pattern, R-cases}
use Rattle.fill_laws.proofs.Parents.{parent_above, parent-least, hands_on}

-- if k is in the subtree of j, then all of the subtree of k is
pub under-trans : (par : ℕ → ℕ) (j k l : ℕ) → Under par j k → Under par k l → Under par j l
under-trans par j k l u top = u
under-trans par j k l u (up h v) = up h (under-trans par j k (par l) u v)

-- if parents are above their columns, the top is the greatest column of its subtree
pub under-le : (par : ℕ → ℕ) → ((k : ℕ) → 0 < par k → k < par k) → (j k : ℕ) → Under par j k → k ≤ j
under-le par rises j k top = omega arith
under-le par rises j k (up h u) = omega (arith, under-le par rises j (par k) u, rises k h)

module _ {n : ℕ} {A : Pattern} (good : Below n A) where
  -- the rows above j of the columns of j's subtree are rows of j
  pub subtree-rows : (j k i : ℕ) → Under (parent A) j k → i ∈ R A k → j < i → i ∈ R A j
  subtree-rows j k i top m l = m
  subtree-rows j k i (up h u) m l =
      subtree-rows j (parent A k) i u (hands_on good k i h m (omega (arith, under-le (parent A) (parent_above good) j (parent A k) u))) l

  climb : (d k i : ℕ) → i ≤ k + d → i ∈ R A k → Under (parent A) i k
  climb zero k i b m = absurd (omega (arith, (R-range good k i m).0))
  climb (suc d) k i b m =
      let (h, p) = parent-least good k i m in
      let a = parent_above good k h in
      up h (go (eq-or-lt_of_le p) (λ q. climb d (parent A k) i (omega arith) (hands_on good k i h m q)))
    where
      go : (parent A k ≡ i) ⊎ (parent A k < i) → (parent A k < i → Under (parent A) i (parent A k)) → Under (parent A) i (parent A k)
      go (inl e) ih = rw e top
      go (inr q) ih = ih q

  -- a column is in the subtree of each of its rows
  pub row_under : (k i : ℕ) → i ∈ R A k → Under (parent A) i k
  row_under k i m = climb i k i (omega arith) m

  reached : (k i : ℕ) → i ∈ R A k → Reached A i k
  reached = strong (λ k. (i : ℕ) → i ∈ R A k → Reached A i k) (λ k ih i m. go k ih i m (R-cases A k i m))
    where
      go : (k : ℕ) → ((c : ℕ) → c < k → (i : ℕ) → i ∈ R A c → Reached A i c) → (i : ℕ) → i ∈ R A k → (i ∈ A k) ⊎ Earlier A k i → Reached A i k
      go k ih i m (inl g) = record { column = k; given = g; under = top; above = (R-range good k i m).0 }
      go k ih i m (inr e) =
          let r = ih e.column e.before i e.row in
          record {
            column = r.column;
            given = r.given;
            under = under-trans (parent A) k e.column r.column (row_under e.column k e.holds) r.under;
            above = e.above;
          }

  -- i is a row of column k exactly when the pattern has i at a column of the subtree of k, and k is below i
  pub row-subtree : (i k : ℕ) → (i ∈ R A k) ↔ Reached A i k
  row-subtree i k = (reached k i, λ r. subtree-rows k r.column i r.under (R-pattern good r.column i r.given) r.above)
