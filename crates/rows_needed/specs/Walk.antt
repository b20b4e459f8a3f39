-- Defines the walk over the columns at row i, and the state before and after it.
-- Assumes nothing.
use Rattle.std.specs.Prelude.{ℕ, ◌+◌, ◌<◌, ◌≤◌, ◌≡◌, ◌⊎◌, List, length, get_or}
use Rattle.papers.specs.Lists.{◌∈◌}
use Rattle.papers.specs.Job.{Pattern, column_of}
use Rattle.papers.specs.Fill.{R}
use Rattle.column_laws.specs.Tested.{Tested}
use Rattle.needed_climb.specs.Sums.{sum_to, count_below}
use Rattle.needed_climb.specs.Row.{Known, Row}
use Rattle.rows_needed.specs.Buckets.{Points, ColumnUpTo, Buckets}

-- column c can be filed with q as the place of its next row
pub record Filing (n c q : ℕ) (starts rows work : List ℕ) : Type 0 where
  pub column : ColumnUpTo n c
  pub started : c < length starts
  pub place : q < get_or starts c 0 → q < length rows
  pub row : q < get_or starts c 0 → get_or rows q 0 ≤ n
  pub long : n + n + n + n < length work

-- before row i the rows below i are counted, and no column is marked for row i
pub record Between (n i : ℕ) (A : Pattern) (parents work : List ℕ) (t : ℕ) : Type 0 where
  pub known : Known n i A parents
  pub sum : sum_to n (λ c. count_below i (R A c)) ≡ t
  pub low : (c : ℕ) → 1 ≤ c → c ≤ n → get_or work c 0 < i

-- the columns at row i from c on are left to do; every other column whose pattern has row i is marked
pub record Walk (n i : ℕ) (starts rows parents work : List ℕ) (t c : ℕ) : Type 0 where
  pub tested : Tested n starts rows
  pub low : 1 ≤ i
  pub high : i ≤ n
  pub row : Row n i (column_of starts rows) parents work t i
  pub buckets : Buckets n i starts rows work (ColumnUpTo n) c
  pub leaf : (d : ℕ) → ColumnUpTo n d → i ∈ column_of starts rows d → (get_or work d 0 ≡ i) ⊎ Points n starts rows work d i
  pub long-parents : n ≤ length parents

-- a tested job, and work long enough to file its columns
pub record Fileable (n : ℕ) (starts rows work : List ℕ) : Type 0 where
  pub tested : Tested n starts rows
  pub work-long : n + n + n + n < length work

-- the first m columns are filed under their first rows, and no column is marked
pub record FirstFiled (n m : ℕ) (starts rows work : List ℕ) : Type 0 where
  pub buckets : Buckets n 0 starts rows work (ColumnUpTo m) 0
  pub marks : (x : ℕ) → x ≤ n → get_or work x 0 ≡ 0

-- a tested job, and slices long enough to count its rows
pub record RowsCountable (n : ℕ) (starts rows parents work : List ℕ) : Type 0 where
  pub tested : Tested n starts rows
  pub parents-long : n ≤ length parents
  pub work-long : n + n + n + n < length work
