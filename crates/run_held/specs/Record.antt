-- Defines the record that each step of a run updates.
-- Assumes nothing.
use Rattle.std.specs.Prelude.{ℕ, ◌+◌, ◌-◌, ◌^◌, ◌<◌, ◌≤◌, min, max}
use Rattle.run_held.specs.declared.Held.{Held}

-- a step pops `pops` updates of `popped` entries, pushes its own unless that has no entries, and keeps the greater room
abbrev pub stepped_of : Held → ℕ → ℕ → ℕ → ℕ → Held
stepped_of held pops popped update room =
    record { count = held.count - pops + min 1 update; entries = held.entries - popped + update; greatest = max held.greatest room }

-- the record can take a step: the step pops no more than is held, and what is then held fits a machine number
pub record Takes (held : Held) (pops popped update : ℕ) : Type 0 where
  pub enough : pops ≤ held.count
  pub entries-enough : popped ≤ held.entries
  pub few : held.count < 2 ^ 63
  pub entries-few : held.entries + update < 2 ^ 63
