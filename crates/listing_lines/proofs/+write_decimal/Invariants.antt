-- Proves that `write_decimal` writes a number: one digit, or the digits of its tenth and then its last digit. The tenth is smaller than the number.
-- Assumes nothing.
use Rattle.listing_lines.proofs.+write_decimal.Given as goal

abbrev pub decreases-write_decimal : goal.decreases-write_decimal
decreases-write_decimal l = l.x
