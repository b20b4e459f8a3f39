-- Proves that `read_number` reads the number at `at`, since the groups from i on, added on top of those before, give it. Each turn leaves one group
-- less that may come.
-- Assumes nothing.
use Rattle.read_number.proofs.Carried.{Carried}
use Rattle.read_number.proofs.read_number.Given as goal

abbrev pub invariant-loop-i : goal.invariant-loop-i
invariant-loop-i l = Carried l.s l.at l.i l.low l.w l.k
