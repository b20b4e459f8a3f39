-- Proves that `least` gives the first row of a list, and 0 of an empty list.
-- Assumes nothing.
use Rattle.std.proofs.Common.{ap, ◌∙◌}
use Rattle.std.specs.Option.{unwrap_or}
use Rattle.structure.proofs.Storing.{least-first}
use Rattle.structure.proofs.least.Goals as goal

pub returns : goal.returns
returns c = c.unwrap_or.ensures ∙ ap (λ o. unwrap_or o 0) (c.copied.ensures ∙ c.first.ensures.value) ∙ least-first c.args.list.now
