-- Defines a job and its pattern, and when a job is refused: 1 to 6.
-- Assumes nothing.
use Rattle.std.specs.Prelude.{ℕ, zero, suc, ◌+◌, ◌-◌, ◌<◌, ◌≤◌, ◌≡◌, ◌⊎◌, ◌≢◌, Bool, true, false, not, List, [], ◌∷◌, ltb, leb, eqb, length, get_or}
use Rattle.std.proofs.Math.Seq.{slice}
use Rattle.papers.specs.Bounds.{max_columns, max_mark, max_limit}
use Rattle.papers.specs.Lists.{◌∈◌, Asc, nth}
use Rattle.papers.specs.Refusals.{answer, Refusal, when, at_least, first_fault_among, on, one_of}
use Rattle.papers.specs.declared.JobHead.{JobHead}

-- a job: n, the start numbers, the rows strictly below the diagonal, the sibling mark, the room limit
pub record Job : Type 0 where
  pub n : ℕ
  pub starts : List ℕ
  pub rows : List ℕ
  pub mark : ℕ
  pub limit : ℕ

-- the job that the code is given: its three numbers, its starts and its rows
abbrev pub job_of : JobHead → List ℕ → List ℕ → Job
job_of head starts rows = record { n = head.n; starts = starts; rows = rows; mark = head.mark; limit = head.limit }

-- the three numbers of a job
abbrev pub head_in : Job → JobHead
head_in job = record { n = job.n; mark = job.mark; limit = job.limit }

-- a pattern gives the rows of each column
abbrev pub Pattern : Type 0
Pattern = ℕ → List ℕ

-- start number j, counted from 1; a start that is not there counts as 0, so a column past the last start is empty
unfoldable pub start : List ℕ → ℕ → ℕ
start starts k = nth starts k

-- column j takes the rows between start j and start j + 1
unfoldable pub column_of : List ℕ → List ℕ → Pattern
column_of starts rows j = slice (start starts j) (start starts (suc j)) rows

-- the pattern of a job
abbrev pub pattern : Job → Pattern
pattern job = column_of job.starts job.rows

-- a pattern strictly below the diagonal: the rows of column j ascend, are above j and at most n; column 0 has none
pub record Below (n : ℕ) (A : Pattern) : Type 0 where
  pub none : A 0 ≡ []
  pub ascending : (j : ℕ) → Asc j (A j)
  pub within : (i j : ℕ) → i ∈ A j → i ≤ n

-- ---- 1 to 3: the numbers of a job

-- 1: there are more columns than the bound
abbrev pub columns_over : Refusal ℕ
columns_over = when (λ n. ltb max_columns n) (λ n. max_columns < n) (λ n. answer 1 0 0)

-- 2: the mark is none of 0, 1, 2
abbrev pub mark_unknown : Refusal Job
mark_unknown =
    when (λ job. ltb max_mark job.mark) (λ job. (job.mark ≢ 0) × (job.mark ≢ 1) × (job.mark ≢ 2)) (λ job. answer 2 0 0)

-- 3: the limit is over its bound
abbrev pub limit_over : Refusal Job
limit_over = when (λ job. ltb max_limit job.limit) (λ job. max_limit < job.limit) (λ job. answer 3 0 0)

-- ---- 4 to 6: lists, which a job and a run both hand over

-- n, starts and rows
pub record RowLists : Type 0 where
  pub n : ℕ
  pub starts : List ℕ
  pub rows : List ℕ

-- the lists of a job
abbrev pub job_lists : Job → RowLists
job_lists job = record { n = job.n; starts = job.starts; rows = job.rows }

-- tests whether start j + 1 is below start j: the rows of column j would end before they begin
unfoldable pub falls_at_place : List ℕ → ℕ → Bool
falls_at_place starts j = ltb (start starts (suc j)) (start starts j)

-- start j + 1 is below start j
abbrev pub Falls : List ℕ → ℕ → Type 0
Falls starts j = start starts (suc j) < start starts j

-- 4 at place 0: there are not n + 1 starts
abbrev pub starts_miscounted : Refusal RowLists
starts_miscounted = when (λ c. not (eqb (length c.starts) (c.n + 1))) (λ c. length c.starts ≢ c.n + 1) (λ c. answer 4 0 0)

-- 4 at place 0: the first start is not 0
abbrev pub starts_not_from_zero : Refusal RowLists
starts_not_from_zero = when (λ c. not (eqb (start c.starts 1) 0)) (λ c. start c.starts 1 ≢ 0) (λ c. answer 4 0 0)

-- 4 at a column: its starts fall; the lowest such column counts
abbrev pub starts_fall : Refusal RowLists
starts_fall = at_least 4 (λ c. c.n) (λ c. falls_at_place c.starts) (λ c. Falls c.starts)

-- 4 at place n: the last start is not the number of rows
abbrev pub starts_end_wrong : Refusal RowLists
starts_end_wrong =
    when (λ c. not (eqb (start c.starts (suc c.n)) (length c.rows))) (λ c. start c.starts (suc c.n) ≢ length c.rows)
    (λ c. answer 4 c.n 0)

-- 4: the starts are bad
abbrev pub bad_starts : Refusal RowLists
bad_starts = one_of (starts_miscounted ∷ starts_not_from_zero ∷ starts_fall ∷ starts_end_wrong ∷ [])

-- the fault of row r of column j: 5 if it is at most j or more than n; else 6 if it is not above the row before it; else 0
unfoldable pub fault_of_row : ℕ → ℕ → ℕ → ℕ → ℕ
fault_of_row n j before r = elim (leb r j) [ true ↦ 5 | false ↦ elim (ltb n r) [ true ↦ 5 | false ↦ elim (leb r before) [ true ↦ 6 | false ↦ 0 ] ] ]

-- the first fault of the rows of column j. No row comes before the first one, so it is compared with j: a row not above j is 5 anyway.
unfoldable pub fault_of_rows : ℕ → ℕ → ℕ → List ℕ → ℕ
fault_of_rows n j before [] = 0
fault_of_rows n j before (r ∷ rs) = elim (fault_of_row n j before r) [ zero ↦ fault_of_rows n j r rs | suc f ↦ suc f ]

-- the first fault of column j, 5 or 6; 0 if it has none
unfoldable pub column_fault : ℕ → List ℕ → List ℕ → ℕ → ℕ
column_fault n starts rows j = fault_of_rows n j j (column_of starts rows j)

-- row k of column j, where the rows of a column count from 0
abbrev pub row_of : RowLists → ℕ → ℕ → ℕ
row_of c j k = get_or (column_of c.starts c.rows j) k 0

-- column j has a row k
abbrev pub IsRow : RowLists → ℕ → ℕ → Type 0
IsRow c j k = k < length (column_of c.starts c.rows j)

-- the fault 5 of row k of column j: it is at most j, or more than n
abbrev pub Outside : RowLists → ℕ → ℕ → Type 0
Outside c j k = (row_of c j k ≤ j) ⊎ (c.n < row_of c j k)

-- the fault 6 of row k of column j: it is not above the row before it
abbrev pub NotAbove : RowLists → ℕ → ℕ → Type 0
NotAbove c j k = (0 < k) × (row_of c j k ≤ row_of c j (k - 1))

-- no row before row k of column j has a fault
abbrev pub FineBefore : RowLists → ℕ → ℕ → Type 0
FineBefore c j k = (m : ℕ) → m < k → (¬ Outside c j m) × (¬ NotAbove c j m)

-- the fault of column j: that of its first row at fault; a row with both faults is 5
pub data FaultyColumn (c : RowLists) (j : ℕ) : ℕ → Type 0 where
  five : {k : ℕ} → IsRow c j k → FineBefore c j k → Outside c j k → FaultyColumn c j 5
  six : {k : ℕ} → IsRow c j k → FineBefore c j k → ¬ Outside c j k → NotAbove c j k → FaultyColumn c j 6

-- 5 and 6: a row is at fault; the first in reading order decides, and the place is its column
abbrev pub bad_row : Refusal RowLists
bad_row = first_fault_among (λ c. c.n) (λ c. column_fault c.n c.starts c.rows) FaultyColumn (λ c number j. answer number j 0)

-- the refusals of a job: 1 to 6
unfoldable pub job_refusals : List (Refusal Job)
job_refusals = on (λ job. job.n) columns_over ∷ mark_unknown ∷ limit_over ∷ on job_lists bad_starts ∷ on job_lists bad_row ∷ []
