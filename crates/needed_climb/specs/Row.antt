-- Defines the state within row i: which columns are marked for it, what is counted, and which parents are known. Place c of work holds the mark of
-- column c, and place c - 1 of parents its parent.
-- Assumes nothing.
use Rattle.std.specs.Prelude.{ℕ, ◌+◌, ◌-◌, ◌<◌, ◌≤◌, ◌≡◌, ◌⊎◌, ◌≢◌, List, length, get_or}
use Rattle.papers.specs.Bounds.{max_columns}
use Rattle.papers.specs.Lists.{◌∈◌}
use Rattle.papers.specs.Job.{Pattern, Below}
use Rattle.papers.specs.Fill.{R}
use Rattle.papers.specs.Tree.{parent}
use Rattle.needed_climb.specs.Sums.{sum_to, count_below, hit}

-- counts the rows of column c below i, and one more if it is marked for row i
abbrev pub tally : Pattern → List ℕ → ℕ → ℕ → ℕ
tally A work i c = count_below i (R A c) + hit (get_or work c 0) i

-- parents holds at each column its parent or 0, and it holds every parent below i
pub record Known (n i : ℕ) (A : Pattern) (parents : List ℕ) : Type 0 where
  pub right : (c : ℕ) → 1 ≤ c → c ≤ n → (get_or parents (c - 1) 0 ≡ 0) ⊎ (get_or parents (c - 1) 0 ≡ parent A c)
  pub known : (c : ℕ) → 1 ≤ c → c ≤ n → 0 < parent A c → parent A c < i → get_or parents (c - 1) 0 ≡ parent A c

-- a column marked for row i has row i and its parent is stored; the parent is marked too, or is d, the climb's next; t rows are counted
pub record Row (n i : ℕ) (A : Pattern) (parents work : List ℕ) (t d : ℕ) : Type 0 where
  pub known : Known n i A parents
  pub sum : sum_to n (tally A work i) ≡ t + 1
  pub marked : (c : ℕ) → 1 ≤ c → c ≤ n → get_or work c 0 ≡ i → c ≢ i → (i ∈ R A c) × (get_or parents (c - 1) 0 ≡ parent A c)
  pub closed : (c : ℕ) → 1 ≤ c → c ≤ n → get_or work c 0 ≡ i → c ≢ i → (get_or work (parent A c) 0 ≡ i) ⊎ (parent A c ≡ d)
  pub own : get_or work i 0 ≡ i
  pub low : (c : ℕ) → 1 ≤ c → c ≤ n → get_or work c 0 ≤ i

-- a climb begins at column k, which has row i, of a pattern of n columns
pub record ClimbStart (n i k : ℕ) (A : Pattern) (parents work : List ℕ) (t : ℕ) : Type 0 where
  pub good : Below n A
  pub row : Row n i A parents work t i
  pub leaf : i ∈ R A k
  pub first : 1 ≤ k
  pub few : n ≤ max_columns
  pub long-parents : n ≤ length parents
  pub long-work : n < length work

pub record Climbing (i k : ℕ) (parents work : List ℕ) (t : ℕ) : Type 0 where
  pub n : ℕ
  pub pattern : Pattern
  pub start : ClimbStart n i k pattern parents work t

-- what a climb leaves for any pattern
pub record Climbed (i k : ℕ) (parents₀ work₀ : List ℕ) (t₀ : ℕ) (parents work : List ℕ) (t : ℕ) : Type 0 where
  pub row : (n : ℕ) (A : Pattern) → ClimbStart n i k A parents₀ work₀ t₀ → Row n i A parents work t i
  pub met : get_or work k 0 ≡ i
  pub kept : (c : ℕ) → get_or work₀ c 0 ≡ i → get_or work c 0 ≡ i
  pub others : (x : ℕ) → i < x → get_or work x 0 ≡ get_or work₀ x 0
