-- Proves that `read_lists` reads all lists: those of the columns before j are read and kept, and those left, put onto them, are all.
-- Assumes nothing.
use Rattle.read_plan.proofs.Lists.{Lists}
use Rattle.read_plan.proofs.read_lists.Given as goal

abbrev pub invariant-loop-j : goal.invariant-loop-j
invariant-loop-j l = Lists l.n l.plan l.at l.initial.starts l.initial.rows l.starts l.rows l.k l.j l.total
