-- A part of a list, as code that lends it names it.
-- Assumes nothing.
use Rattle.std.specs.Prelude.{ℕ, ◌-◌, List, take, drop}

-- the numbers from place s to place e; the same list as slice s e l (part_slice)
abbrev pub part : ℕ → ℕ → List ℕ → List ℕ
part s e l = take (e - s) (drop s l)
