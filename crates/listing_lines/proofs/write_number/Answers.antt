-- Proves that `write_number` writes a space, then the number.
-- Assumes nothing.
use Rattle.listing_lines.proofs.Lines.{spaced-number}
use Rattle.listing_lines.proofs.write_number.Goals as goal

pub returns : goal.returns
returns c = spaced-number c.args.x c.write_decimal.ensures
