-- Proves that `match_groups` compares all bytes of a number: the first i agree, so the others decide. Each turn leaves one byte less.
-- Assumes nothing.
use Rattle.papers.specs.Numbers.{bytes_of}
use Rattle.check_numbers.proofs.Bytes.{Bytes}
use Rattle.check_numbers.proofs.match_groups.Given as goal

abbrev pub invariant-loop-i : goal.invariant-loop-i
invariant-loop-i l = Bytes (bytes_of l.x) l.plan l.at l.i
