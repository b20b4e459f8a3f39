-- Defines what the little array of a number holds.
-- Assumes nothing.
use Rattle.std.specs.Prelude.{ℕ, ◌≡◌, List, length, replicate}
use Rattle.std.proofs.lemmas.List.Edits.{sets}
use Rattle.papers.specs.Bounds.{max_groups}
use Rattle.papers.specs.Numbers.{bytes_of}

-- the array holds the bytes of x, then zeros, and count is how many bytes x has
pub record InArray (x : ℕ) (bytes : List ℕ) (count : ℕ) : Type 0 where
  pub stored : bytes ≡ sets (replicate max_groups 0) 0 (bytes_of x)
  pub counted : count ≡ length (bytes_of x)
