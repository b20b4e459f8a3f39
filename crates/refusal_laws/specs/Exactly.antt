-- Defines what is proved of the outcome of every entry point: which answer it gives, and what its lent slices hold afterwards.
-- Assumes nothing.
use Rattle.std.specs.Prelude.{◌<◌, ◌≡◌, ◌↔◌, List, ◌++◌}
use Rattle.papers.specs.declared.Answer.{Answer}
use Rattle.papers.specs.Refusals.{Refusal, Answered, Unrefused, Outcome}

-- `found` is the outcome of a call by the conditions of its early and late refusals: `lent` is what the lent slices held before, `zero` is
-- all of them zero, and `done` is the outcome if nothing is refused
pub record Exactly {C S : Type 0} (early late : List (Refusal C)) (call : C) (lent zero : S) (done found : Outcome S) : Type 0 where
  -- the call answers a number, with its place and count, exactly when the condition of that number gives it and no condition tested earlier
  -- gives anything
  pub refused-iff : (a : Answer) → 0 < a.number → (found.answered ≡ a) ↔ Answered (early ++ late) call a
  -- the call is done exactly when no condition gives anything
  pub done-iff : (found.answered.number ≡ 0) ↔ Unrefused (early ++ late) call
  pub when-done : found.answered.number ≡ 0 → found ≡ done
  -- an early refusal leaves all lent slices as they were, a late one leaves them zero
  pub kept : (a : Answer) → Answered early call a → found.lent ≡ lent
  pub zeroed : (a : Answer) → Unrefused early call → Answered late call a → found.lent ≡ zero
