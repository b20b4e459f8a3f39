-- Proves that `read_step` reads a column, then its pops; if either is at fault, the step is.
-- Assumes nothing.
use mathlib.Core.Path.{refl, sym}
use mir.Facts.{Fits-of_lt}
use Rattle.std.proofs.lemmas.Result.{err_from_is_err_and}
use Rattle.read_fields.proofs.Answers.{field_found}
use Rattle.read_plan.proofs.Steps.{column-narrow, pops-narrow, step-no-column, step-no-pops, step-got}
use Rattle.read_plan.proofs.read_step.Goals as goal

pub returns-in_err-column : goal.returns-in_err-column
returns-in_err-column c =
    let p = err_from_is_err_and c.from_residual.result c.from_residual.ensures.1 in
    rw (p.1, p.2) (step-no-column _ _ _ (sym c.in_err-column.ensures))

pub read_field-requires-2 : goal.read_field-requires-2
read_field-requires-2 c = (field_found c.in_ok-column.ensures).inside

pub returns-in_err-popped : goal.returns-in_err-popped
returns-in_err-popped c =
    let p = err_from_is_err_and c.from_residual-in_err-popped.result c.from_residual-in_err-popped.ensures.1 in
    rw (p.1, p.2) (step-no-pops _ _ _ (sym c.in_ok-column.ensures) (sym c.in_err-popped.ensures))

pub overflow_cast-order : goal.overflow_cast-order
overflow_cast-order c = Fits-of_lt (column-narrow c.requires.few (field_found c.in_ok-column.ensures).high)

pub overflow_cast-pops : goal.overflow_cast-pops
overflow_cast-pops c = Fits-of_lt (pops-narrow c.requires.few (field_found c.in_ok-popped.ensures).high)

pub returns : goal.returns
returns c =
    record {
      part = _;
      read = step-got _ _ _ (sym c.in_ok-column.ensures) (sym c.in_ok-popped.ensures);
      kept = record { column = refl; popped = refl };
    }
