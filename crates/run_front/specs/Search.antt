-- Defines the place of a row among ascending rows, and how many first rows two lists share.
-- Assumes nothing.
use Rattle.std.specs.Prelude.{ℕ, ◌<◌, ◌≤◌, ◌≡◌, ◌≢◌, List, length, get_or}
use Rattle.papers.specs.Lists.{Asc}

-- the rows before lo are below the row, and those from hi on are not, so its place is from lo to hi
pub record Bracket (rows : List ℕ) (row lo hi : ℕ) : Type 0 where
  pub rising : lo ≤ hi
  pub within : hi ≤ length rows
  pub before : (i : ℕ) → i < lo → get_or rows i 0 < row
  pub behind : (i : ℕ) → hi ≤ i → i < length rows → row ≤ get_or rows i 0

-- a row is sought among ascending rows, and its place is known to be from lo to hi
pub record Sought (rows : List ℕ) (row lo hi : ℕ) : Type 0 where
  pub ascending : Asc 0 rows
  pub between : Bracket rows row lo hi

-- the rows of a front and of an update ascend
pub record BothAscend (rows update : List ℕ) : Type 0 where
  pub front-ascends : Asc 0 rows
  pub update-ascends : Asc 0 update

-- the first `count` rows of two lists are equal
pub record SameFirst (a b : List ℕ) (count : ℕ) : Type 0 where
  pub in-first : count ≤ length a
  pub in-second : count ≤ length b
  pub same : (k : ℕ) → k < count → get_or a k 0 ≡ get_or b k 0

-- exactly `count` first rows are equal: the next rows differ, or one list has ended
pub record Alike (a b : List ℕ) (count : ℕ) : Type 0 where
  pub first : SameFirst a b count
  pub differ : count < length a → count < length b → get_or a count 0 ≢ get_or b count 0
