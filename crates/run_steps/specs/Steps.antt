-- Defines what a run's steps require, and what a run answers from its steps on.
-- Assumes nothing.
use Rattle.std.specs.Prelude.{ℕ, ◌≤◌, List, [], length}
use Rattle.papers.specs.declared.Answer.{Answer}
use Rattle.papers.specs.Lists.{zeros}
use Rattle.papers.specs.Refusals.{outcome}
use Rattle.papers.specs.Run.{RunCall, run_late, run_done}
use Rattle.column_laws.specs.Tested.{Tested}

-- the lists have places for n steps, on a factor that passes 1, 4, 5 and 6
pub record StepsGiven (n : ℕ) (starts rows columns pops stack : List ℕ) : Type 0 where
  pub tested : Tested n starts rows
  pub columns-long : n ≤ length columns
  pub pops-long : n ≤ length pops
  pub stack-long : n ≤ length stack

-- answers the first step at fault, or updates left, or done
abbrev pub answer_of_steps : RunCall → Answer
answer_of_steps call = (outcome [] run_late run_done zeros call call.stack).answered
