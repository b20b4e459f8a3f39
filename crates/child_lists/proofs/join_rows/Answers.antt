-- Proves that `join_rows` joins the list of one buffer and further rows into the other buffer, which is then next in turn.
-- Assumes nothing.
use Rattle.child_lists.proofs.Buffers.{fits-x, fits-y, joined-in-x, joined-in-y}
use Rattle.child_lists.proofs.join_rows.Goals as goal

pub unite-requires : goal.unite-requires
unite-requires c = fits-y c.requires c.if-turn-eq0.true

pub unite-requires-else-turn-eq0 : goal.unite-requires-else-turn-eq0
unite-requires-else-turn-eq0 c = fits-x c.requires c.if-turn-eq0.false

pub returns-then-turn-eq0 : goal.returns-then-turn-eq0
returns-then-turn-eq0 c = joined-in-y c.requires c.if-turn-eq0.true c.unite.ensures

pub returns-else-turn-eq0 : goal.returns-else-turn-eq0
returns-else-turn-eq0 c = joined-in-x c.requires c.if-turn-eq0.false c.unite-else-turn-eq0.ensures
