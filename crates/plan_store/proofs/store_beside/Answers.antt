-- Proves that `store_beside` stores the plan or refuses it: the first places lent hold the plan, and a law covers each way out.
-- Assumes nothing.
use Rattle.std.proofs.Common.{sym, ◌∙◌}
use Rattle.refusals.proofs.Numbered.{error-numbered, done-numbered}
use Rattle.plan_store.proofs.Besides.{refused-beside, done-beside}
use Rattle.plan_store.proofs.store_beside.Goals as goal

pub returns-then-is_err : goal.returns-then-is_err
returns-then-is_err c =
    refused-beside _ _ (rw c.requires.planned at c.store_plan-stored.ensures)
    (error-numbered _ (sym c.is_err.ensures.value ∙ c.if-is_err.true)) c.clear_all.ensures

pub returns-else-is_err : goal.returns-else-is_err
returns-else-is_err c =
    done-beside _ _ (rw c.requires.planned at c.store_plan-stored.ensures) (done-numbered _ (sym c.is_err.ensures.value ∙ c.if-is_err.false))
