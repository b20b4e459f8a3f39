-- Proves that `check` answers 27 for a key that does not read through, 26 for one over the sizes, and else what the check of its job answers. The
-- number is at most 27 and the place at most one byte behind the plan, so both fit 64 bits.
-- Assumes nothing.
use Rattle.std.proofs.Common.{rules, inl, inr}
use Rattle.solver.proofs.Calls.{unreadable-is-27, over-is-26, answer-bounded, answer-called}
use Rattle.solver.proofs.check.Goals as goal
use Rattle.solver.proofs.check.Goals.{then-found-via-then-found, then-found-via-else-found+then-found-2}

pub returns-in_default : goal.returns-in_default
returns-in_default c = let (number, place, e) = c.in_default.ensures in unreadable-is-27 _ _ e

pub returns-then-found : goal.returns-then-found
returns-then-found c =
    over-is-26 _ _ c.in-Some.ensures
    (elim c.then-found.branch [
      | then-found-via-then-found w ↦ inl w.if-found.true
      | then-found-via-else-found+then-found-2 w ↦ inr w.if-found-2.true
    ])

pub check_for_key-answer-requires : goal.check_for_key-answer-requires
check_for_key-answer-requires c =
    record {
      parts = c.in-Some.ensures;
      columns-fit = c.if-found.false;
      rows_fit = c.if-found-2.false;
    }

pub overflow_mul-result-2 : goal.overflow_mul-result-2
overflow_mul-result-2 c = let w = answer-bounded _ _ c.check_for_key-answer.ensures in let h = w.number in search rules

pub overflow_add-result : goal.overflow_add-result
overflow_add-result c = let w = answer-bounded _ _ c.check_for_key-answer.ensures in let h = w.number in let p = w.place in search rules

pub returns : goal.returns
returns c = answer-called _ _ c.check_for_key-answer.ensures
