-- Defines fill as a relation, and the list R(j) of each column by step-by-step elimination.
-- Assumes nothing.
use Rattle.std.specs.Prelude.{ℕ, zero, suc, ◌<◌, true, false, List, [], ◌∷◌, ltb}
use Rattle.papers.specs.Lists.{◌∈◌, member, keep, merge}
use Rattle.papers.specs.Job.{Pattern}

-- Fill: row i of column j is filled if the pattern has it, or if some earlier column has both i and j filled. Both constructors keep below
-- the diagonal.
pub data Filled (A : Pattern) : ℕ → ℕ → Type 0 where
  given : {i j : ℕ} → j < i → i ∈ A j → Filled A i j
  filled : {i j k : ℕ} → j < i → k < j → Filled A i k → Filled A j k → Filled A i j

-- ---- R(j) by step-by-step elimination

-- acc joined with the rows above j of each list that contains j
unfoldable pub gather : ℕ → List (List ℕ) → List ℕ → List ℕ
gather j [] acc = acc
gather j (l ∷ ls) acc = elim (member j l) [ true ↦ merge (keep (ltb j) l) (gather j ls acc) | false ↦ gather j ls acc ]

-- the list of column j: its pattern rows, and the rows above j of every earlier list that contains j
abbrev pub list_from : Pattern → ℕ → List (List ℕ) → List ℕ
list_from A j earlier = gather j earlier (A j)

-- the lists of the columns j, j - 1, .., 1
unfoldable pub lists : Pattern → ℕ → List (List ℕ)
lists A zero = []
lists A (suc j) = let earlier = lists A j in list_from A (suc j) earlier ∷ earlier

-- R(j): the filled rows of column j, ascending
unfoldable pub R : Pattern → ℕ → List ℕ
R A zero = []
R A (suc j) = list_from A (suc j) (lists A j)
