-- Proves that `length` counts the groups: a number below 128 is one byte, and a number of m bits has m / 7 groups, rounded up. 64 less the leading
-- zeros is m.
-- Assumes nothing.
use mathlib.Core.Path.{refl}
use native.Mathlib.Omega.{arith}
use Rattle.bytes_laws.proofs.Numbers.{count-of-zeros}
use Rattle.groups.proofs.Written.{bytes_small, bytes-large}
use Rattle.groups.proofs.length.Goals as goal

pub returns-then-x-lt128 : goal.returns-then-x-lt128
returns-then-x-lt128 c = rw (bytes_small c.args.x c.if-x-lt128.true) refl

pub returns : goal.returns
returns c =
    omega (
      arith,
      count-of-zeros 64 c.args.x _ (omega (arith, c.requires)) c.requires refl,
      bytes-large c.args.x c.if-x-lt128.false,
    )
