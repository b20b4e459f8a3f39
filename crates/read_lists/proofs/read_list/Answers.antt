-- Proves that `read_list` reads a list: its count, then its rows. If the quick reader gives up, the other reader begins again and keeps its rows over
-- those kept.
-- Assumes nothing.
use mathlib.Core.Path.{sym}
use native.Mathlib.Omega.{arith}
use Rattle.std.proofs.lemmas.Result.{err_from_is_err_and}
use Rattle.read_fields.proofs.Answers.{field_found, told_of}
use Rattle.read_lists.proofs.Lists.{list-bad, list-got, rows-asked, rows-to-read, total-fits, quick-told, quick-again}
use Rattle.read_lists.proofs.read_list.Goals as goal

pub returns-in_err-count : goal.returns-in_err-count
returns-in_err-count c =
    let p = err_from_is_err_and c.from_residual.result c.from_residual.ensures.1 in
    rw (p.1, p.2) (list-bad _ _ _ _ (sym c.in_err-count.ensures))

pub quick_rows-requires : goal.quick_rows-requires
quick_rows-requires c = rows-asked c.requires (field_found c.in_ok-count.ensures)

pub overflow_add-result : goal.overflow_add-result
overflow_add-result c = total-fits c.requires (field_found c.in_ok-count.ensures) (omega (arith, c.well_formed))

pub returns-in-Some : goal.returns-in-Some
returns-in-Some c = rw (list-got _ _ _ _ (sym c.in_ok-count.ensures)) (quick-told c.in-Some.ensures)

pub read_rows-requires : goal.read_rows-requires
read_rows-requires c = rows-to-read c.requires (field_found c.in_ok-count.ensures)

pub returns : goal.returns
returns c =
    told_of _ _ c.read_rows.result (list-got _ _ _ _ (sym c.in_ok-count.ensures))
    (quick-again _ c.read_rows.result c.quick_rows.ensures c.read_rows.ensures)
