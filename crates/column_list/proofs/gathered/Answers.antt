-- Proves that `gathered` gives the list that was gathered: the first rows of the buffer that is next in turn.
-- Assumes nothing.
use mathlib.Core.Path.{sym, ap}
use lib.ListN.{take}
use Rattle.child_lists.proofs.Buffers.{first-buffer, second-buffer}
use Rattle.column_list.proofs.gathered.Goals as goal

pub returns-then-g-eq0 : goal.returns-then-g-eq0
returns-then-g-eq0 c =
    ap (take c.args.g.len) (sym (first-buffer c.args.g.turn c.args.x.now
    c.args.y.now c.if-g-eq0.true))

pub returns-else-g-eq0 : goal.returns-else-g-eq0
returns-else-g-eq0 c =
    ap (take c.args.g.len) (sym (second-buffer c.args.g.turn c.args.x.now
    c.args.y.now c.if-g-eq0.false))
