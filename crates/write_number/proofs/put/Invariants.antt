-- Proves that `put` stores the bytes of x. Below 128 times 128 it stores one byte or two; else the loop stores those of the little array, and the
-- first i are stored.
-- Assumes nothing.
use Rattle.papers.specs.Numbers.{bytes_of}
use Rattle.list_laws.proofs.Writing.{Copied}
use Rattle.write_number.proofs.put.Given as goal

abbrev pub invariant-loop-i : goal.invariant-loop-i
invariant-loop-i l = Copied (bytes_of l.x) l.initial.dst l.at l.dst l.i
