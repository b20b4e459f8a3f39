-- Proves that `starts_fault` finds the first fault: no start of the first `done` columns falls, so the next column that ends before it begins is the
-- first. After all columns only the last start is left to test.
-- Assumes nothing.
use Rattle.job_starts.proofs.Rising.{Rising}
use Rattle.job_starts.proofs.starts_fault.Given as goal

abbrev pub invariant-loop-done : goal.invariant-loop-done
invariant-loop-done l = Rising l.n l.starts l.done
