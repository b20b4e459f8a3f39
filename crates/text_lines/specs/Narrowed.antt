-- Defines the row that is kept for a row of a job text.
-- Assumes nothing.
use Rattle.std.specs.Prelude.{ℕ, ◌-◌, ◌^◌, min}

-- the row, or the greatest number of 32 bits if the row exceeds it
abbrev pub narrowed : ℕ → ℕ
narrowed row = min row (2 ^ 32 - 1)
