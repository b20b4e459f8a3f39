-- Proves that `column_lists` makes the lists, starts and parents: after m columns the slices hold theirs, so the next list can be gathered, and
-- stored if it fits.
-- Assumes nothing.
use mathlib.Core.Path.{refl}
use native.Mathlib.Omega.{arith}
use Rattle.structure.proofs.Running.{run-begin, run-buffered, run_store, run_on, run_short, run-all}
use Rattle.structure.proofs.column_lists.Goals as goal

pub loop-m-init : goal.loop-m-init
loop-m-init c = run-begin _ c.requires (c.fill.ensures.after (λ y e. e))

pub returns-then-frows-fstarts : goal.returns-then-frows-fstarts
returns-then-frows-fstarts c =
    run_short c.loop-m.invariant refl c.loop-m-test.true c.gather-g.ensures c.if-frows-fstarts.true

pub gathered-requires : goal.gathered-requires
gathered-requires c = run-buffered c.loop-m.invariant c.loop-m-test.true c.gather-g.ensures (omega arith) (omega arith)

pub store-requires : goal.store-requires
store-requires c =
    run_store c.loop-m.invariant c.loop-m-test.true c.gather-g.ensures c.gathered.ensures c.if-frows-fstarts.false (omega arith)

pub loop-m-preserved : goal.loop-m-preserved
loop-m-preserved c =
    run_on c.loop-m.invariant c.loop-m-test.true c.gather-g.ensures
    c.gathered.ensures c.if-frows-fstarts.false c.store.ensures (omega arith) (omega arith) (omega arith) (omega arith)

pub returns : goal.returns
returns c = run-all c.loop-m.invariant refl c.loop-m-test.false
