-- Proves that `read_head` reads edition and size, then mark and limit; the first at fault makes the head unreadable.
-- Assumes nothing.
use mathlib.Core.Path.{sym}
use Rattle.std.proofs.lemmas.Result.{err_from_is_err_and}
use Rattle.read_fields.proofs.Answers.{field_found}
use Rattle.read_key.proofs.Heads.{no-edition, no-columns, columns-mark}
use Rattle.read_key.proofs.read_head.Goals as goal

pub returns-in_err-_edition : goal.returns-in_err-_edition
returns-in_err-_edition c =
    let p = err_from_is_err_and c.from_residual.result c.from_residual.ensures.1 in
    rw (p.1, p.2) (no-edition _ (sym c.in_err-_edition.ensures))

pub read_field-requires-2 : goal.read_field-requires-2
read_field-requires-2 c = (field_found c.in_ok-_edition.ensures).inside

pub returns-in_err-n : goal.returns-in_err-n
returns-in_err-n c =
    let p = err_from_is_err_and c.from_residual-in_err-n.result c.from_residual-in_err-n.ensures.1 in
    rw (p.1, p.2) (no-columns _ (sym c.in_ok-_edition.ensures) (sym c.in_err-n.ensures))

pub read_mark-requires : goal.read_mark-requires
read_mark-requires c = (field_found c.in_ok-n.ensures).inside

pub returns : goal.returns
returns c = rw (columns-mark _ (sym c.in_ok-_edition.ensures) (sym c.in_ok-n.ensures)) c.read_mark.ensures
