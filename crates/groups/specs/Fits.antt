-- Defines what the writer of numbers requires of a number.
-- Assumes nothing.
use Rattle.std.specs.Prelude.{ℕ, ◌*◌, ◌^◌, ◌<◌}
use Rattle.papers.specs.Bounds.{max_groups}

-- x fits into the greatest number of groups
abbrev pub FitsGroups : ℕ → Type 0
FitsGroups x = x < 2 ^ (7 * max_groups)
