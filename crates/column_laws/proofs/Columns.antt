-- Proves facts of the pattern of a tested job: its rows are strictly below the diagonal, and the rows of a column are the part between its
-- two starts.
-- Assumes nothing.
use Prim.Native.Nat.{ℕ, suc, ◌+◌, ◌-◌, ◌<◌, ◌≤◌}
use mathlib.Core.Path.{◌≡◌}
use mathlib.Core.List.{List}
use native.Mathlib.Omega.{arith}
use native.Mathlib.Numerals.{add-one}
use lib.ListN.{length, get_or}
use Rattle.papers.specs.Lists.{◌∈◌}
use Rattle.papers.specs.Job.{column_of, Below}
use Rattle.job_laws.specs.Passed.{PassedLists}
use Rattle.list_laws.specs.Parts.{part}
use Rattle.list_laws.proofs.Ascending.{asc-above}
use Rattle.list_laws.proofs.Slices.{At, in-slice, slice-into, slice-rises}
use Rattle.job_laws.proofs.Starts.{start-at, start-within, column-slice, part-column}
use Rattle.job_laws.proofs.Passed.{lists-iff, lists-below}
use Rattle.column_laws.specs.Tested.{Tested}

-- the rows of column m + 1 are the part between its two starts
pub column-part : (starts rows : List ℕ) (m : ℕ) → part (get_or starts m 0) (get_or starts (m + 1) 0) rows ≡ column_of starts rows (m + 1)
column-part starts rows m = let e : m + 1 - 1 ≡ m = omega arith in rw e at (part-column starts rows (m + 1))

module _ {n : ℕ} {starts rows : List ℕ} (t : Tested n starts rows) where
  lists : PassedLists n starts rows
  lists = (lists-iff n starts rows).0 (t.starts-pass, t.rows_pass)

  -- the rows are strictly below the diagonal
  pub tested-below : Below n (column_of starts rows)
  tested-below = lists-below n starts rows lists

  pub starts-long : length starts ≡ n + 1
  starts-long = lists.whole.long

  pub starts-rise : (m : ℕ) → m < n → get_or starts m 0 ≤ get_or starts (m + 1) 0
  starts-rise m h = rw (add-one, ← start-at starts m, ← start-at starts (suc m)) (lists.whole.rising (suc m) (omega arith) (omega arith))

  pub starts_fit : (m : ℕ) → m ≤ n → get_or starts m 0 ≤ length rows
  starts_fit m h = rw (← start-at starts m) (start-within lists.whole (suc m) (omega arith) (omega arith))

  -- ---- the rows of column c by their places

  module _ (c : ℕ) (high : c ≤ n) where
    pub row_at : (i : ℕ) → i ∈ column_of starts rows c → At i (get_or starts (c - 1) 0) (get_or starts c 0) rows
    row_at i m = in-slice rows (get_or starts c 0) (starts_fit c high) (get_or starts (c - 1) 0) i (rw (column-slice starts rows c) at m)

    -- a row of a column is above the column, and at most n
    pub row-range : (q : ℕ) → get_or starts (c - 1) 0 ≤ q → q < get_or starts c 0
        → (get_or rows q 0 ∈ column_of starts rows c) × ((c < get_or rows q 0) × ((get_or rows q 0 ≤ n) × (q < length rows)))
    row-range q a b =
        let m : get_or rows q 0 ∈ column_of starts rows c = rw (column-slice starts rows c) (slice-into (get_or starts (c - 1) 0) (get_or starts c 0) q rows
        (starts_fit c high) a b) in (
          m,
          (
            asc-above c (column_of starts rows c) (tested-below.ascending c) m,
            (tested-below.within (get_or rows q 0) c m, omega (arith, starts_fit c high)),
          ),
        )

    pub rows-rise : (p q : ℕ) → get_or starts (c - 1) 0 ≤ p → p < q → q < get_or starts c 0 → get_or rows p 0 < get_or rows q 0
    rows-rise p q =
        slice-rises rows (get_or starts c 0) (starts_fit c high) (get_or starts (c - 1) 0) c p q
        (rw (column-slice starts rows c) at (tested-below.ascending c))
