-- Proves that a column's rows are between two starts, within the factor's rows. They ascend above the column, so they are fewer than the columns.
-- Assumes nothing.
use Prim.Native.Nat.{ℕ, suc, ◌+◌, ◌-◌, ◌<◌, ◌≤◌}
use mathlib.Core.Path.{◌≡◌}
use mathlib.Core.List.{List}
use native.Mathlib.Omega.{arith}
use lib.ListN.{length, get_or}
use Rattle.papers.specs.Lists.{Asc}
use Rattle.papers.specs.Job.{start, column_of}
use Rattle.job_laws.specs.Passed.{PassedLists}
use Rattle.list_laws.specs.Parts.{part}
use Rattle.list_laws.proofs.Ascending.{asc-weaken, asc-length}
use Rattle.job_laws.proofs.Starts.{start-at, start-within, part-column}
use Rattle.job_laws.proofs.Passed.{lists-iff}
use Rattle.column_laws.specs.Tested.{Tested}
use Rattle.run_front.specs.Column.{Column, ColumnIn}

module _ {n : ℕ} {starts rows : List ℕ} (tested : Tested n starts rows) where
  pub passed-lists : PassedLists n starts rows
  passed-lists = (lists-iff n starts rows).0 (tested.starts-pass, tested.rows_pass)

  module _ {c : ℕ} (column : Column n c) where
    -- a column's rows ascend above it
    pub column-ascends : Asc 0 (column_of starts rows c)
    column-ascends = asc-weaken 0 c (column_of starts rows c) (omega arith) (passed-lists.ascending c column.low column.high)

    -- a column and its rows are at most n
    pub column_fits : c + length (column_of starts rows c) ≤ n
    column_fits =
        let h = asc-length n c (column_of starts rows c) (passed-lists.ascending c column.low column.high)
        (passed-lists.within c column.low column.high) in
        let u = column.high in
        omega arith

module _ {n : ℕ} {starts rows : List ℕ} {c : ℕ} (in-factor : ColumnIn n starts rows c) where
  -- starts holds both starts of a column, they ascend, and they are within the rows
  pub record Lies (from end : ℕ) : Type 0 where
    pub listed : c < length starts
    pub rising : from ≤ end
    pub within : end ≤ length rows

  pub lies : Lies (get_or starts (c - 1) 0) (get_or starts c 0)
  unfolding start
  lies =
      let s = (passed-lists in-factor.tested).whole in
      let column = in-factor.column in
      let l = s.long in
      let q : suc (c - 1) ≡ c = omega arith in
      record {
        listed = omega arith;
        rising = rw (← start-at starts c) (s.rising c column.low column.high);
        within = rw (← start-at starts c) (start-within s (suc c) (omega arith) (omega arith));
      }

  -- the part between them holds the column's rows
  pub part-is-column : part (get_or starts (c - 1) 0) (get_or starts c 0) rows ≡ column_of starts rows c
  part-is-column = part-column starts rows c
