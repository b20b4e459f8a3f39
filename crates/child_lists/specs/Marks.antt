-- Defines marks of rows for column j: row i is marked if work holds j at n + n + i. The marks of earlier columns are smaller, so none has to be
-- cleared.
-- Assumes nothing.
use Rattle.std.specs.Prelude.{ℕ, ◌+◌, ◌<◌, ◌≤◌, ◌≡◌, ◌⊎◌, Bool, List, [], ◌∷◌, eqb, length, get_or, set}
use Rattle.papers.specs.Lists.{◌∈◌}

-- work after the rows of a list are marked
unfoldable pub marked : ℕ → ℕ → List ℕ → List ℕ → List ℕ
marked n j [] work = work
marked n j (i ∷ is) work = marked n j is (set work (n + n + i) j)

-- tests whether row i is marked
abbrev pub is_marked : ℕ → ℕ → List ℕ → ℕ → Bool
is_marked n j work i = eqb (get_or work (n + n + i) 0) j

-- work has places for the marks of a list's rows
pub record Markable (n : ℕ) (l work : List ℕ) : Type 0 where
  pub most : (i : ℕ) → i ∈ l → i ≤ n
  pub long : n + n + n < length work

-- every marked row is in the list
abbrev pub MarkedWithin : ℕ → ℕ → List ℕ → List ℕ → Type 0
MarkedWithin n j work l = (i : ℕ) → 1 ≤ i → get_or work (n + n + i) 0 ≡ j → i ∈ l

-- work has changed only in marks, which were set to j
pub record Changed (n j : ℕ) (work₀ work : List ℕ) : Type 0 where
  pub links : (p : ℕ) → p ≤ n + n → get_or work p 0 ≡ get_or work₀ p 0
  pub marks : (p : ℕ) → n + n < p → (get_or work p 0 ≡ get_or work₀ p 0) ⊎ (get_or work p 0 ≡ j)

-- no mark exceeds j
abbrev pub Fresh : ℕ → ℕ → List ℕ → Type 0
Fresh n j work = (p : ℕ) → n + n < p → get_or work p 0 ≤ j
