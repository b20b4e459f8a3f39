-- Proves that `too_short` compares the three lengths with n in turn: the first that is below n decides, and if the first two are not, the third does.
-- Assumes nothing.
use Rattle.std.proofs.Common.{inl, inr, ◌∙◌}
use Rattle.std.proofs.lemmas.Bool.{lt-ltb}
use Rattle.std.proofs.Math.Nat.{not-le_of_lt}
use Rattle.stack_run.proofs.Outcomes.{columns-short, pops-short, stack-short}
use Rattle.stack_run.proofs.too_short.Goals as goal
use Rattle.stack_run.proofs.too_short.Goals.{then-columns-n, else-columns-n}

pub returns-then-pops-n : goal.returns-then-pops-n
returns-then-pops-n c =
    let a = c.args in
    elim c.if-columns-n.branch [
      | then-columns-n w ↦
          w.t-6-is ∙ lt-ltb _ _ w.if-columns-n.true ∙ columns-short a.n a.columns.now a.pops.now a.stack.now w.if-columns-n.true
      | else-columns-n w ↦ elim c.if-pops-n.either [
        | inl h ↦ absurd (not-le_of_lt h w.if-columns-n.false)
        | inr h ↦ w.t-6-is ∙ lt-ltb _ _ h.1 ∙ pops-short a.n a.columns.now a.pops.now a.stack.now h.0 h.1
      ]
    ]

pub returns-else-pops-n : goal.returns-else-pops-n
returns-else-pops-n c =
    let a = c.args in stack-short a.n a.columns.now a.pops.now a.stack.now c.if-pops-n.false.0 c.if-pops-n.false.1
