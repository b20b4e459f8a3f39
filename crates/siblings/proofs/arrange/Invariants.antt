-- Proves that `arrange` arranges all lists: those of the columns before j are arranged, and their W stored.
-- Assumes nothing.
use Rattle.std.proofs.Common.{length}
use Rattle.siblings.proofs.Arranging.{Arranging}
use Rattle.siblings.proofs.arrange.Given as goal

abbrev pub invariant-loop-j : goal.invariant-loop-j
invariant-loop-j l =
    Arranging l.mark l.factor l.initial.list l.initial.work l.list l.work (length l.initial.scratch) (length l.scratch) l.w l.k l.j
