-- Proves that `store_keys` stores the keys of the children: it stores them behind the W, so it overwrites no W that it has yet to read.
-- Assumes nothing.
use Rattle.sibling_keys.proofs.Keys.{Keying}
use Rattle.list_laws.specs.Parts.{part}
use Rattle.sibling_keys.specs.Kids.{key_at}
use Rattle.sibling_keys.proofs.store_keys.Given as goal

abbrev pub invariant-loop-kid : goal.invariant-loop-kid
invariant-loop-kid l = Keying l.k (key_at l.mark l.factor (part l.w l.k l.initial.work) l.j) l.kids l.initial.work l.work l.kid-index
