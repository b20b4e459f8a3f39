-- Proves that `finish` refuses and clears a slice that is too short, and else clears the places behind the bytes: a law covers each way out.
-- Assumes nothing.
use Rattle.std.proofs.Common.{refl}
use Rattle.write_stored.proofs.Stores.{finished-short, finished-whole}
use Rattle.write_stored.proofs.finish.Goals as goal

pub returns-then-bytes-needed : goal.returns-then-bytes-needed
returns-then-bytes-needed c written before w =
    rw c.refuse.ensures (finished-short written before w c.if-bytes-needed.true refl (c.fill.ensures.after (λ y e. e)))

pub returns : goal.returns
returns c written before w = finished-whole written before w c.if-bytes-needed.false refl (c.fill-2.ensures.after (λ y e. e))
