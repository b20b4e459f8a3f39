-- Proves that `write_run` stores the gaps: if all are below 128, their low bytes are their bytes; else it writes the gaps over them.
-- Assumes nothing.
use Rattle.write_gaps.proofs.Lows.{run_short, run-over}
use Rattle.write_gaps.proofs.write_run.Goals as goal

pub returns-then-widest-lt128 : goal.returns-then-widest-lt128
returns-then-widest-lt128 c = run_short c.requires.list c.low_bytes-widest.ensures c.if-widest-lt128.true

pub returns : goal.returns
returns c =
    run-over c.requires.list c.low_bytes-widest.ensures c.write_gaps-2.ensures
