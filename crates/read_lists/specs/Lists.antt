-- Defines what is kept of a list. A store past the end of a slice stores nothing, so what is kept does not depend on whether all rows fit.
-- Assumes nothing.
use Rattle.std.specs.Prelude.{ℕ, ◌≡◌, List}
use Rattle.std.proofs.lemmas.List.Edits.{sets}

-- the rows are kept from place t on
abbrev pub RowsKept : ℕ → List ℕ → List ℕ → List ℕ → Type 0
RowsKept t rows₀ rows list = rows ≡ sets rows₀ t list
