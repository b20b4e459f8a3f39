-- Proves that `write_lists` stores all lists, since storing those behind the first `done` at next leaves what storing all of them leaves.
-- Assumes nothing.
use Rattle.write_lists.proofs.Columns.{WritesColumns}
use Rattle.write_lists.proofs.write_lists.Given as goal

abbrev pub invariant-loop-done : goal.invariant-loop-done
invariant-loop-done l = WritesColumns l.n l.lists.starts.now l.lists.rows.now l.initial.bytes l.initial.next l.bytes l.next l.done
