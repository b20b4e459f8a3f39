-- Proves that `walk` does every column at row i: those from c on are left, and a turn climbs from the first of them and files it under its next row.
-- Each turn leaves fewer rows ahead.
-- Assumes nothing.
use Rattle.rows_needed.proofs.Walks.{Walking, ahead}
use Rattle.rows_needed.proofs.walk.Given as goal

abbrev pub invariant-loop-c : goal.invariant-loop-c
invariant-loop-c l = Walking l.n l.i l.pattern.starts.now l.pattern.rows.now l.initial.parents l.initial.work l.parents l.work l.t l.c

abbrev pub decreases-loop-c : goal.decreases-loop-c
decreases-loop-c l = ahead l.n l.pattern.starts.now l.work
