-- Defines the jobs of the worked pieces, the plan bytes of one of them, and the rules' example of a job text.
-- Assumes nothing.
use Prim.Native.Nat.{ℕ}
use mathlib.Core.List.{List, [], ◌∷◌}
use Rattle.papers.specs.Key.{job_with}
use Rattle.papers.specs.Lists.{flat, starts_counted_from}
use Rattle.papers.specs.Job.{Job}

-- a job by its columns' rows
unfoldable pub by_columns : ℕ → ℕ → ℕ → List (List ℕ) → Job
unfolding flat starts_counted_from
by_columns n mark limit columns = job_with (record { n = n; mark = mark; limit = limit }) columns

unfoldable pub none : Job
unfolding by_columns
none = by_columns 0 0 0 []

unfoldable pub pair : ℕ → Job
unfolding by_columns
pair limit = by_columns 2 0 limit ((2 ∷ []) ∷ [] ∷ [])

-- the pair's plan bytes: its limit, the two steps' columns and pops, the peak, what follows
unfoldable pub pair_bytes : ℕ → ℕ → ℕ → ℕ → ℕ → ℕ → List ℕ → List ℕ
pair_bytes limit c₁ p₁ c₂ p₂ peak rest =
    0x01 ∷ 0x02 ∷ 0x00 ∷ limit ∷ 0x01 ∷ 0x01 ∷ 0x00 ∷ c₁ ∷ p₁ ∷ c₂ ∷ p₂ ∷ 0x01 ∷ 0x01 ∷ 0x00 ∷ peak ∷ rest

unfoldable pub loose : Job
unfolding by_columns
loose = by_columns 3 0 100 ([] ∷ [] ∷ [] ∷ [])

unfoldable pub dense : Job
unfolding by_columns
dense = by_columns 3 0 100 ((2 ∷ 3 ∷ []) ∷ (3 ∷ []) ∷ [] ∷ [])

unfoldable pub filling : Job
unfolding by_columns
filling = by_columns 4 0 100 ((3 ∷ 4 ∷ []) ∷ (3 ∷ []) ∷ [] ∷ [] ∷ [])

unfoldable pub crossed : Job
unfolding by_columns
crossed = by_columns 4 0 100 ((3 ∷ []) ∷ (4 ∷ []) ∷ (4 ∷ []) ∷ [] ∷ [])

unfoldable pub star : Job
unfolding by_columns
star = by_columns 4 0 100 ((4 ∷ []) ∷ (4 ∷ []) ∷ (4 ∷ []) ∷ [] ∷ [])

unfoldable pub nine : ℕ → Job
unfolding by_columns
nine mark =
    by_columns 9 mark 20 ((2 ∷ 8 ∷ 9 ∷ []) ∷ [] ∷ (4 ∷ 7 ∷ []) ∷ (8 ∷ 9 ∷ []) ∷ (6 ∷ 8 ∷ []) ∷ (7 ∷ []) ∷ (9 ∷ []) ∷ [] ∷ [] ∷ [])

-- the rules' example of a job text, and what the program prints for it
unfoldable pub nine_text : List ℕ
nine_text =
    57 ∷ 32 ∷ 50 ∷ 48 ∷ 10 ∷
    51 ∷ 32 ∷ 50 ∷ 32 ∷ 56 ∷ 32 ∷ 57 ∷ 10 ∷
    48 ∷ 10 ∷
    50 ∷ 32 ∷ 52 ∷ 32 ∷ 55 ∷ 10 ∷
    50 ∷ 32 ∷ 56 ∷ 32 ∷ 57 ∷ 10 ∷
    50 ∷ 32 ∷ 54 ∷ 32 ∷ 56 ∷ 10 ∷
    49 ∷ 32 ∷ 55 ∷ 10 ∷
    49 ∷ 32 ∷ 57 ∷ 10 ∷
    48 ∷ 10 ∷
    48 ∷ 10 ∷ []

unfoldable pub nine_listing : List ℕ
nine_listing =
    112 ∷ 108 ∷ 97 ∷ 110 ∷ 32 ∷ 57 ∷ 32 ∷ 48 ∷ 32 ∷ 49 ∷ 53 ∷ 10 ∷
    49 ∷ 32 ∷ 48 ∷ 32 ∷ 49 ∷ 48 ∷ 32 ∷ 50 ∷ 32 ∷ 56 ∷ 32 ∷ 57 ∷ 10 ∷
    50 ∷ 32 ∷ 49 ∷ 32 ∷ 54 ∷ 32 ∷ 56 ∷ 32 ∷ 57 ∷ 10 ∷
    51 ∷ 32 ∷ 48 ∷ 32 ∷ 57 ∷ 32 ∷ 52 ∷ 32 ∷ 55 ∷ 10 ∷
    52 ∷ 32 ∷ 49 ∷ 32 ∷ 49 ∷ 51 ∷ 32 ∷ 55 ∷ 32 ∷ 56 ∷ 32 ∷ 57 ∷ 10 ∷
    53 ∷ 32 ∷ 48 ∷ 32 ∷ 49 ∷ 53 ∷ 32 ∷ 54 ∷ 32 ∷ 56 ∷ 10 ∷
    54 ∷ 32 ∷ 49 ∷ 32 ∷ 49 ∷ 53 ∷ 32 ∷ 55 ∷ 32 ∷ 56 ∷ 10 ∷
    55 ∷ 32 ∷ 50 ∷ 32 ∷ 49 ∷ 53 ∷ 32 ∷ 56 ∷ 32 ∷ 57 ∷ 10 ∷
    56 ∷ 32 ∷ 50 ∷ 32 ∷ 54 ∷ 32 ∷ 57 ∷ 10 ∷
    57 ∷ 32 ∷ 49 ∷ 32 ∷ 49 ∷ 10 ∷ []
