-- Proves that `child_block` gives a child's block: it reads the child from its place in the lists, and counts its descendants and itself.
-- Assumes nothing.
use Rattle.std.proofs.Common.{refl}
use Rattle.walk.proofs.child_block.Goals as goal

pub returns : goal.returns
returns c = record { child = refl; counted = refl; begins = refl }
