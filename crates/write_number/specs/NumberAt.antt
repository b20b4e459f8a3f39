-- Defines what the writer of a number requires of the number and of the place.
-- Assumes nothing.
use Rattle.std.specs.Prelude.{ℕ, ◌^◌, ◌<◌}
use Rattle.groups.specs.Fits.{FitsGroups}

-- x can be written from `at` on: it has few groups, and the place is small
pub record NumberAt (at x : ℕ) : Type 0 where
  pub fits : FitsGroups x
  pub near : at < 2 ^ 63
