-- Proves that `count_rows` counts the rows of all lists: it is the loop that keeps lists, with empty slices, in which no store changes anything.
-- Assumes nothing.
use mathlib.Core.List.{[]}
use Rattle.read_plan.proofs.Lists.{Lists}
use Rattle.read_key.proofs.count_rows.Given as goal

abbrev pub invariant-loop-j : goal.invariant-loop-j
invariant-loop-j l = Lists l.n l.key l.at [] [] [] l.none l.k l.j l.total
