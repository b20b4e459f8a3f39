-- Defines the bounds that the rules name, and one of our own for the listing, each in one place.
-- Assumes nothing.
use Rattle.std.specs.Prelude.{ℕ, ◌+◌, ◌*◌, ◌^◌}

-- n is at most this (refusal 1)
abbrev pub max_columns : ℕ
max_columns = 4096

-- a room limit is at most this (refusal 3)
abbrev pub max_limit : ℕ
max_limit = 2 ^ 40

-- the sibling marks are 0 to this (refusal 2)
abbrev pub max_mark : ℕ
max_mark = 2

-- a declared peak is at most this (refusal 14)
abbrev pub max_peak : ℕ
max_peak = 2 ^ 40

-- a number has at most this many groups of seven bits (refusal 13)
abbrev pub max_groups : ℕ
max_groups = 6

-- the edition that a key begins with
abbrev pub edition : ℕ
edition = 1

-- for n columns the work slice has at least this many numbers (refusal 7)
abbrev pub work_length_for : ℕ → ℕ
work_length_for n = 8 * n + 8

-- ---- the sizes of the listing program and of the solver's call (refusals 25, 26, 8)

-- the program reads at most this many bytes of input
abbrev pub input_bytes : ℕ
input_bytes = 8192

-- the program takes at most this many columns
abbrev pub program_columns : ℕ
program_columns = 256

-- the program takes at most this many pattern rows
abbrev pub program_rows : ℕ
program_rows = 2048

-- the program's buffer holds this many factor rows
abbrev pub program_factor_rows : ℕ
program_factor_rows = 4096

-- a decimal has at most this many digits
abbrev pub max_digits : ℕ
max_digits = 13

-- the mark of a job text that gives none
abbrev pub default_mark : ℕ
default_mark = 0

-- the listing's output slice has at least this many bytes (refusal 7), and any listing fits in them
abbrev pub listing_bytes : ℕ
listing_bytes = 24576
