-- Defines the buckets that hold each column by its next pattern row. Work holds the first column of row r at n + r, the column behind c in the same
-- bucket at n + n + c, and the place of c's next row at n + n + n + c.
-- Assumes nothing.
use Rattle.std.specs.Prelude.{ℕ, ◌+◌, ◌-◌, ◌<◌, ◌≤◌, ◌≡◌, true, false, List, ltb, length, get_or, set}
use Rattle.papers.specs.Lists.{◌∈◌, Distinct}
use Rattle.column_laws.specs.Chains.{Chain}

-- the place of the next row of column c
abbrev pub cursor : ℕ → List ℕ → ℕ → ℕ
cursor n work c = get_or work (n + n + n + c) 0

-- the next row of column c is r
abbrev pub Points : ℕ → List ℕ → List ℕ → List ℕ → ℕ → ℕ → Type 0
Points n starts rows work c r = (cursor n work c < get_or starts c 0) × (get_or rows (cursor n work c) 0 ≡ r)

-- the rows of column c before its next row are at most i, and its next row is at least i
pub record Place (n i : ℕ) (starts rows work : List ℕ) (c : ℕ) : Type 0 where
  pub from_start : get_or starts (c - 1) 0 ≤ cursor n work c
  pub to_end : cursor n work c ≤ get_or starts c 0
  pub behind : (q : ℕ) → get_or starts (c - 1) 0 ≤ q → q < cursor n work c → get_or rows q 0 ≤ i
  pub ahead : cursor n work c < get_or starts c 0 → i ≤ get_or rows (cursor n work c) 0

-- d is one of the columns 1 to m
abbrev pub ColumnUpTo : ℕ → ℕ → Type 0
ColumnUpTo m d = (1 ≤ d) × (d ≤ m)

-- links from c on list the columns of P whose next row is r
pub record Bucket (n r : ℕ) (starts rows work : List ℕ) (P : ℕ → Type 0) (c : ℕ) : Type 0 where
  pub list : List ℕ
  pub chain : Chain work (n + n) c list
  pub from : (d : ℕ) → d ∈ list → P d × Points n starts rows work d r
  pub into : (d : ℕ) → P d → Points n starts rows work d r → d ∈ list
  pub once : Distinct list

-- for the columns in P: links list each bucket above row i, and from c on the columns at row i that are left to do
pub record Buckets (n i : ℕ) (starts rows work : List ℕ) (P : ℕ → Type 0) (c : ℕ) : Type 0 where
  pub range : (d : ℕ) → P d → ColumnUpTo n d
  pub place : (d : ℕ) → P d → Place n i starts rows work d
  pub bucket : (r : ℕ) → i < r → r ≤ n → Bucket n r starts rows work P (get_or work (n + r) 0)
  pub left : Bucket n i starts rows work P c
  pub long : n + n + n + n < length work

-- puts column c first in the bucket of row r
unfoldable pub put_first : ℕ → ℕ → ℕ → List ℕ → List ℕ
put_first n r c work = set (set work (n + n + c) (get_or work (n + r) 0)) (n + r) c

-- gives column c the place q of its next row, and puts it in the bucket of that row if it has one
unfoldable pub filed : ℕ → ℕ → ℕ → List ℕ → List ℕ → List ℕ → List ℕ
filed n c q starts rows work =
    elim (ltb q (get_or starts c 0)) [ true ↦ put_first n (get_or rows q 0) c (set work (n + n + n + c) q) | false ↦ set work (n + n + n + c) q ]
