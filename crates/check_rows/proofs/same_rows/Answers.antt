-- Proves that `same_rows` tests whether two lists are equal, since the library compares them as the rules do.
-- Assumes nothing.
use Rattle.std.proofs.Common.{◌∙◌}
use Rattle.check_rows.proofs.Comparing.{pointwise-same}
use Rattle.check_rows.proofs.same_rows.Goals as goal

pub returns : goal.returns
returns c = c.eq.ensures ∙ pointwise-same c.args.a.now c.args.b.now
