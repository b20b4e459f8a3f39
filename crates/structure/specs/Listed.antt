-- Defines what storing a column's list changes, the lengths of the slices lent for all lists, and the lists of the columns that are done.
-- Assumes nothing.
use Rattle.std.specs.Prelude.{ℕ, suc, ◌+◌, ◌<◌, ◌≤◌, ◌≡◌, List, map, length, get_or, set}
use Rattle.std.proofs.lemmas.List.Edits.{sets}
use Rattle.papers.specs.Lists.{head0, up_to, flat, starts_counted_from}
use Rattle.papers.specs.Job.{Pattern}
use Rattle.papers.specs.Fill.{R}
use Rattle.papers.specs.Tree.{parent}
use Rattle.papers.specs.Key.{lists_of}
use Rattle.column_laws.specs.Tested.{Tested}
use Rattle.structure.specs.Hanging.{hanging}

-- a list that can be stored as that of column m + 1
pub record Storable (n m : ℕ) (list parents fstarts frows work : List ℕ) : Type 0 where
  pub column : m < n
  pub parent-most : head0 list ≤ n
  pub parents-long : n ≤ length parents
  pub starts-long : n < length fstarts
  pub rows_fit : get_or fstarts m 0 + length list ≤ length frows
  pub work-long : n + n < length work

-- the list is stored, the column's parent is its least row, and the column hangs under this parent
pub record Stores (n m : ℕ) (list parents₀ fstarts₀ frows₀ work₀ parents fstarts frows work : List ℕ) : Type 0 where
  pub parents-are : parents ≡ set parents₀ m (head0 list)
  pub starts-are : fstarts ≡ set fstarts₀ (m + 1) (get_or fstarts₀ m 0 + length list)
  pub rows_are : frows ≡ sets frows₀ (get_or fstarts₀ m 0) list
  pub work-is : work ≡ hanging n (head0 list) (m + 1) work₀

-- the least lengths of the slices lent for n columns
pub record Lengths (n : ℕ) (parents fstarts x y work : List ℕ) : Type 0 where
  pub parents-long : n ≤ length parents
  pub starts-long : n < length fstarts
  pub room-x : n ≤ length x
  pub room-y : n ≤ length y
  pub work-long : n + n + n < length work

-- a tested job, and slices for the lists of its columns
pub record Listable (n : ℕ) (starts rows parents fstarts x y work : List ℕ) : Type 0 where
  pub tested : Tested n starts rows
  pub lengths : Lengths n parents fstarts x y work

-- r columns are done: all n, or as many as fit
pub record ColumnsListed (n r : ℕ) (A : Pattern) (parents₀ fstarts₀ frows₀ parents fstarts frows : List ℕ) : Type 0 where
  pub most : r ≤ n
  pub lacks : r < n → length frows₀ < length (flat (lists_of (suc r) (R A)))
  pub fits : length (flat (lists_of r (R A))) ≤ length frows₀
  pub parents-are : parents ≡ sets parents₀ 0 (map (parent A) (up_to r))
  pub starts-are : fstarts ≡ sets fstarts₀ 0 (starts_counted_from 0 (lists_of r (R A)))
  pub rows_are : frows ≡ sets frows₀ 0 (flat (lists_of r (R A)))
