-- Proves that `clear_all` clears the six slices, since it clears each of them in turn.
-- Assumes nothing.
use Rattle.lent.proofs.Sixes.{all-cleared}
use Rattle.lent.proofs.clear_all.Goals as goal

pub returns : goal.returns
returns c =
    all-cleared _ _ _ _ _ _ (c.fill.ensures.after (λ y e. e)) (c.fill-2.ensures.after (λ y e. e)) (c.fill-3.ensures.after (λ y e. e))
    (c.fill-4.ensures.after (λ y e. e)) (c.fill-5.ensures.after (λ y e. e)) (c.fill-6.ensures.after (λ y e. e))
