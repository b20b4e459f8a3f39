-- Defines the six slices that an analysis or a check is lent, as one value.
-- Assumes nothing.
use Rattle.std.specs.Prelude.{ℕ, ◌+◌, List, replicate}
use Rattle.papers.specs.Bounds.{work_length_for, program_columns, program_factor_rows}
use Rattle.papers.specs.Analysis.{Lent}

abbrev pub six_slices : List ℕ → List ℕ → List ℕ → List ℕ → List ℕ → List ℕ → Lent
six_slices parents order pops starts rows work =
    record { parents = parents; order = order; pops = pops; factor_starts = starts; factor_rows = rows; work = work }

-- zeroed slices of the program's sizes
abbrev pub zeroes : Lent
zeroes =
    six_slices (replicate program_columns 0) (replicate program_columns 0) (replicate program_columns 0) (replicate (program_columns + 1) 0)
    (replicate program_factor_rows 0) (replicate (work_length_for program_columns) 0)
