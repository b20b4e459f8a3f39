-- Proves that `match_two` compares two numbers: if the first differs, that decides; if it agrees, the second is compared with what follows it.
-- Assumes nothing.
use mathlib.Core.Path.{refl, sym, ◌∙◌}
use Rattle.papers.specs.Numbers.{bytes_of}
use Rattle.refusals.proofs.Passed.{handed-on}
use Rattle.check_numbers.proofs.Bytes.{bytes_inside}
use Rattle.check_numbers.proofs.Numbers.{left-all, left-number, differs-number, left_one}
use Rattle.check_numbers.proofs.match_two.Goals as goal

pub returns-in_err-next : goal.returns-in_err-next
returns-in_err-next c =
    handed-on _ c.from_residual.ensures.1 ∙ differs-number (left-all c.requires.inside) refl c.match_number.ensures c.in_err-next.was

pub match_number-requires-2 : goal.match_number-requires-2
match_number-requires-2 c = record {
  fits = c.requires.second_fits;
  inside = bytes_inside (bytes_of c.args.x) _ _ c.requires.inside (sym c.match_number.ensures ∙ c.in_ok-next.was);
}

pub returns : goal.returns
returns c =
    left_one (left-number (left-all c.requires.inside) refl c.match_number.ensures c.in_ok-next.was) refl c.match_number-2.ensures
