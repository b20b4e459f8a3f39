-- Proves that `low_bytes` stores the low byte of each gap: those before i are stored up to next, and widest is the greatest of these gaps.
-- Assumes nothing.
use mathlib.Core.Path.{refl}
use Rattle.write_gaps.proofs.Lows.{lows-turn, lows-stop}
use Rattle.write_gaps.proofs.low_bytes.Goals as goal

pub loop-i-preserved : goal.loop-i-preserved
loop-i-preserved c = lows-turn c.loop-i.invariant c.loop-i-test.true refl c.max-widest.ensures

pub returns : goal.returns
returns c = lows-stop c.loop-i.invariant c.loop-i-test.false
