-- Defines how often a number can be halved.
-- Assumes nothing.
use Rattle.std.specs.Prelude.{ℕ, zero, suc, ◌/◌, true, false, eqb}

-- counts the binary digits of x, up to f of them
unfoldable pub binary_digits : ℕ → ℕ → ℕ
binary_digits zero x = 0
binary_digits (suc f) x = elim (eqb x 0) [ true ↦ 0 | false ↦ suc (binary_digits f (x / 2)) ]

-- counts the halvings of x until it is 0; in a block of x steps calls nest at most twice as deep
unfoldable pub levels : ℕ → ℕ
levels x = binary_digits x x
