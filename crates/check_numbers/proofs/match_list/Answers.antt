-- Proves that `match_list` compares a list: its count and, if that agrees, the gaps with what follows it.
-- Assumes nothing.
use mathlib.Core.Path.{◌∙◌}
use Rattle.write_lists.proofs.Counted.{list-is}
use Rattle.refusals.proofs.Passed.{handed-on}
use Rattle.check_numbers.proofs.Numbers.{left-all, left-number, differs-number, left-last}
use Rattle.check_numbers.proofs.match_list.Goals as goal

pub returns-in_err-next : goal.returns-in_err-next
returns-in_err-next c =
    let asked = c.requires in
    handed-on _ c.from_residual.ensures.1 ∙ differs-number (left-all asked.inside) (list-is asked.list) c.match_number.ensures c.in_err-next.was

pub match_gaps-requires : goal.match_gaps-requires
match_gaps-requires c =
    let asked = c.requires in
    record {
      inside = (left-number (left-all asked.inside) (list-is asked.list) c.match_number.ensures c.in_ok-next.was).inside;
      list = asked.list;
    }

pub returns : goal.returns
returns c =
    let asked = c.requires in
    left-last (left-number (left-all asked.inside) (list-is asked.list) c.match_number.ensures c.in_ok-next.was) c.match_gaps.ensures
