-- Proves that `begins_with` tests whether a list begins with another, since the library compares the other with as many rows of the list.
-- Assumes nothing.
use Rattle.std.proofs.Common.{sym, ◌∙◌}
use Rattle.list_laws.proofs.Members.{same_true}
use Rattle.check_rows.proofs.Comparing.{pointwise-same}
use Rattle.check_rows.proofs.begins_with.Goals as goal

pub returns : goal.returns
returns c = λ e. record {
  long = c.starts_with.ensures.bound e;
  begins = sym (same_true _ _ (sym (pointwise-same _ _) ∙ (sym c.starts_with.ensures.value ∙ e)));
}
