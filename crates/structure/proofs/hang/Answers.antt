-- Proves that `hang` makes the two stores of the definition, and none for a root, which has no parent.
-- Assumes nothing.
use mathlib.Core.Path.{sym}
use Rattle.structure.proofs.Hanging.{hanging-root, hanging-is}
use Rattle.structure.proofs.hang.Goals as goal

pub returns-then-p-eq0 : goal.returns-then-p-eq0
returns-then-p-eq0 c = rw c.if-p-eq0.true (sym (hanging-root _ _ _))

pub returns : goal.returns
returns c = sym (hanging-is _ _ _ _ c.if-p-eq0.false)
