-- Proves how a number is written in decimal: below ten it is one digit, else its last digit follows the digits of its tenth.
-- Assumes nothing.
use Prim.Native.Nat.{ℕ, ◌+◌, ◌/◌, ◌%◌, ◌<◌, ◌≤◌}
use mathlib.Core.Path.{◌≡◌}
use mathlib.Core.List.{List, [], ◌∷◌}
use native.Mathlib.Omega.{arith}
use lib.ListN.{length, set, length-append}
use Rattle.papers.specs.Text.{digit, decimal_of}
use Rattle.list_laws.specs.Wrote.{Wrote}
use Rattle.list_laws.proofs.Writing.{wrote-byte, wrote-both, wrote_as}
use Rattle.text_laws.proofs.Decimals.{decimal-small, decimal-more}

module _ (x at : ℕ) (bytes : List ℕ) where
  module _ (h : x < 10) where
    pub one-fits : at + length (decimal_of x) ≤ length bytes → at < length bytes
    one-fits f = let g : at + 1 ≤ length bytes = rw (decimal-small x h) at f in omega arith

    pub one_written : Wrote (decimal_of x) bytes (set bytes at (48 + x)) at (at + 1)
    one_written = wrote_as (decimal-small x h) wrote-byte

  module _ (h : 10 ≤ x) where
    length_more : length (decimal_of x) ≡ length (decimal_of (x / 10)) + 1
    length_more = rw (decimal-more x h) (length-append (decimal_of (x / 10)) (digit (x % 10) ∷ []))

    -- the slice has a place for the last digit, behind those of the tenth
    pub last_fits : at + length (decimal_of x) ≤ length bytes → at + length (decimal_of (x / 10)) < length bytes
    last_fits f = omega (arith, length_more)

    pub last_written : {last : ℕ} {tenth : List ℕ} → Wrote (decimal_of (x / 10)) bytes tenth at last
        → Wrote (decimal_of x) bytes (set tenth last (48 + x % 10)) at (last + 1)
    last_written p = wrote_as (decimal-more x h) (wrote-both p wrote-byte)
