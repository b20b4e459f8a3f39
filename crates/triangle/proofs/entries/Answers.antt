-- Proves that `entries` computes t, since the rows are few, so the product fits, and half of it is t by definition.
-- Assumes nothing.
use Rattle.std.proofs.Common.{sym}
use Rattle.order_laws.proofs.Triangles.{t-is}
use Rattle.triangle.proofs.entries.Goals as goal

pub returns : goal.returns
returns c = sym (t-is c.args.rows)
