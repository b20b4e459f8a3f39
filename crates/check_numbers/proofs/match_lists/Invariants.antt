-- Proves that `match_lists` compares all lists: those of the first c columns agree, so the others are compared from k on.
-- Assumes nothing.
use Prim.Native.Nat.{ℕ, ◌≤◌}
use mathlib.Core.List.{List}
use Rattle.papers.specs.Bounds.{max_columns}
use Rattle.papers.specs.Job.{column_of}
use Rattle.papers.specs.Key.{lists_numbers, lists_of}
use Rattle.job_laws.specs.Passed.{PassedLists}
use Rattle.write_lists.proofs.Columns.{numbers_from}
use Rattle.check_numbers.proofs.Numbers.{Left}
use Rattle.check_numbers.proofs.match_lists.Given as goal

-- the lists of the first `done` columns agree, up to k
pub record Columns (n : ℕ) (starts rows plan : List ℕ) (at k done : ℕ) : Type 0 where
  pub few : n ≤ max_columns
  pub lists : PassedLists n starts rows
  pub matched : Left (lists_numbers 1 (lists_of n (column_of starts rows))) plan at (numbers_from n starts rows done) k

abbrev pub invariant-loop-c : goal.invariant-loop-c
invariant-loop-c l = Columns l.n l.lists.starts.now l.lists.rows.now l.plan l.at l.k l.c
