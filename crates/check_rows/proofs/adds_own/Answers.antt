-- Proves that `adds_own` tests whether a list adds exactly the pattern rows: it marks them, and counts how many rows of the list are marked. If that
-- is their number, the rows behind place p decide.
-- Assumes nothing.
use mathlib.Core.Path.{sym, ap, ◌∙◌}
use native.Mathlib.Omega.{arith}
use Rattle.papers.specs.Lists.{every}
use Rattle.list_laws.proofs.Parts.{part-last}
use Rattle.check_rows.proofs.Comparing.{not-both, then-other, rest-markable}
use Rattle.check_rows.proofs.adds_own.Goals as goal

pub returns-then-count_marked-own : goal.returns-then-count_marked-own
returns-then-count_marked-own c =
    record {
      answers = not-both _ _ _ (λ e. c.if-count_marked-own.true (c.count_marked.ensures ∙ e));
      marks = c.mark.ensures;
    }

pub covered-requires : goal.covered-requires
covered-requires c = rest-markable _ c.requires.list-markable (omega arith)

pub returns : goal.returns
returns c =
    record {
      answers = c.covered.ensures ∙ ap (every _) (part-last c.args.list.now c.args.p) ∙ then-other _ _ _
          (sym c.count_marked.ensures ∙ c.if-count_marked-own.false);
      marks = c.mark.ensures;
    }
