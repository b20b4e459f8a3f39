-- Proves that `write_steps` writes the step of each column: no column has two steps, so a step once written stays. The first k steps are written.
-- Assumes nothing.
use borrow.Author.Rules.{rules}
use Rattle.check_subtrees.proofs.Placing.{column_fits, writing-turn}
use Rattle.check_subtrees.proofs.write_steps.Goals as goal

pub bounds-steps-column : goal.bounds-steps-column
bounds-steps-column c = let h = column_fits c.requires.each c.loop-k.k (search rules) in search rules

pub loop-k-preserved : goal.loop-k-preserved
loop-k-preserved c = writing-turn c.requires.each c.loop-k.invariant (search rules)
