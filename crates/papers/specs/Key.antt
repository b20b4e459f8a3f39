-- Defines the key of a job, how a key is read, and which keys are readable.
-- Assumes nothing.
use Rattle.std.specs.Prelude.{ℕ, zero, suc, ◌+◌, ◌-◌, ◌≡◌, List, [], ◌∷◌, ◌++◌, map, length}
use Rattle.papers.specs.Bounds.{edition, max_columns, max_mark, max_limit}
use Rattle.papers.specs.Lists.{up_to, flat, starts_counted_from}
use Rattle.papers.specs.Refusals.{passed, first}
use Rattle.papers.specs.Job.{Job, job_of, Pattern, pattern, job_refusals}
use Rattle.papers.specs.Numbers.{encode, Read, got, then, onto, field, at_end}
use Rattle.papers.specs.declared.JobHead.{JobHead}

-- the gaps of a list: how far the first row is from b, and each further row from the one before
unfoldable pub gaps_of : ℕ → List ℕ → List ℕ
gaps_of b [] = []
gaps_of b (x ∷ xs) = (x - b) ∷ gaps_of x xs

-- what is written of column j's list: its count, then its gaps
unfoldable pub list_numbers : ℕ → List ℕ → List ℕ
list_numbers j l = length l ∷ gaps_of j l

-- the same of the columns from j on, one after the other
unfoldable pub lists_numbers : ℕ → List (List ℕ) → List ℕ
lists_numbers j [] = []
lists_numbers j (l ∷ ls) = list_numbers j l ++ lists_numbers (suc j) ls

-- the lists of the columns 1 to n
unfoldable pub lists_of : ℕ → Pattern → List (List ℕ)
lists_of n A = map A (up_to n)

-- the numbers of a key: edition, n, mark and limit; then column by column how many pattern rows it has, and their gaps
unfoldable pub key_numbers : Job → List ℕ
key_numbers job = edition ∷ job.n ∷ job.mark ∷ job.limit ∷ lists_numbers 1 (lists_of job.n (pattern job))

-- the bytes of the key
unfoldable pub key_of : Job → List ℕ
key_of job = encode (key_numbers job)

-- ---- reading

-- reads k rows behind row b: each gap is at least 1, and its row at most n
unfoldable pub rows_read_from : ℕ → ℕ → ℕ → List ℕ → ℕ → Read (List ℕ)
rows_read_from n b zero s at = got [] at
rows_read_from n b (suc k) s at = then (field 1 (n - b) s at) λ gap at. onto ((b + gap) ∷ []) (rows_read_from n (b + gap) k s at)

-- reads the list of column j: a count from 0 to n - j, then that many rows
unfoldable pub list_read_from : ℕ → ℕ → List ℕ → ℕ → Read (List ℕ)
list_read_from n j s at = then (field 0 (n - j) s at) λ count at. rows_read_from n j count s at

-- reads the lists of k columns, from column j on
unfoldable pub lists_read_from : ℕ → ℕ → ℕ → List ℕ → ℕ → Read (List (List ℕ))
lists_read_from n j zero s at = got [] at
lists_read_from n j (suc k) s at = then (list_read_from n j s at) λ rows at. onto (rows ∷ []) (lists_read_from n (suc j) k s at)

-- the job with these lists as its pattern
abbrev pub job_with : JobHead → List (List ℕ) → Job
job_with head lists = job_of head (starts_counted_from 0 lists) (flat lists)

-- the job that the bytes of a key encode; the bytes are read to their end
unfoldable pub key_read_from : List ℕ → Read Job
key_read_from s =
    then (field edition edition s 0) λ e at.
    then (field 0 max_columns s at) λ n at.
    then (field 0 max_mark s at) λ mark at.
    then (field 0 max_limit s at) λ limit at.
    then (lists_read_from n 1 n s at) λ lists at.
    at_end (job_with (record { n = n; mark = mark; limit = limit }) lists) s at

-- a key is readable if some job that passes 1 to 6 has exactly these bytes as its key
pub record Readable (key : List ℕ) : Type 0 where
  pub job : Job
  pub passes : first job_refusals job ≡ passed
  pub whole : key_of job ≡ key
