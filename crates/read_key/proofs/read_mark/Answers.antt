-- Proves that `read_mark` reads two fields, mark and limit; if either is at fault, the head is.
-- Assumes nothing.
use mathlib.Core.Path.{sym}
use Rattle.std.proofs.lemmas.Result.{err_from_is_err_and}
use Rattle.read_fields.proofs.Answers.{field_found}
use Rattle.read_key.proofs.Heads.{no-mark, no-limit, mark-limit}
use Rattle.read_key.proofs.read_mark.Goals as goal

pub returns-in_err-mark : goal.returns-in_err-mark
returns-in_err-mark c =
    let p = err_from_is_err_and c.from_residual.result c.from_residual.ensures.1 in
    rw (p.1, p.2) (no-mark _ _ _ (sym c.in_err-mark.ensures))

pub read_field-requires-2 : goal.read_field-requires-2
read_field-requires-2 c = (field_found c.in_ok-mark.ensures).inside

pub returns-in_err-limit : goal.returns-in_err-limit
returns-in_err-limit c =
    let p = err_from_is_err_and c.from_residual-in_err-limit.result c.from_residual-in_err-limit.ensures.1 in
    rw (p.1, p.2) (no-limit _ _ _ (sym c.in_ok-mark.ensures) (sym c.in_err-limit.ensures))

pub returns : goal.returns
returns c = mark-limit _ _ _ (sym c.in_ok-mark.ensures) (sym c.in_ok-limit.ensures)
