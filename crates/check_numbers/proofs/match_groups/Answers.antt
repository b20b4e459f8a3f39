-- Proves that `match_groups` compares all bytes of a number: the first i agree, so the others decide.
-- Assumes nothing.
use Prim.Native.Nat.{◌<◌}
use mathlib.Core.Path.{◌≡◌, sym, ◌∙◌}
use native.Mathlib.Omega.{arith}
use lib.ListN.{length}
use Rattle.papers.specs.Bounds.{max_groups}
use Rattle.papers.specs.Numbers.{bytes_of}
use Rattle.bytes_laws.proofs.Numbers.{bytes-length}
use Rattle.groups.proofs.LittleArray.{array-byte}
use Rattle.check_numbers.proofs.Bytes.{bytes-start, bytes-lack, bytes-other, bytes-turn, bytes-stop}
use Rattle.check_numbers.proofs.match_groups.Goals.{then-plan-k-via-then-plan-k, then-plan-k-via-else-plan-k+then-plan-k-2}
use Rattle.check_numbers.proofs.match_groups.Goals as goal

pub number-groups-requires : goal.number-groups-requires
number-groups-requires c = c.requires.fits

pub loop-i-init : goal.loop-i-init
loop-i-init c = bytes-start _ _ _ c.requires.inside

pub bounds-bytes-i : goal.bounds-bytes-i
bounds-bytes-i c =
    let n = c.number-groups.ensures.counted in
    let h = c.loop-i-test.true in omega (arith, bytes-length c.args.x)

pub returns-then-plan-k : goal.returns-then-plan-k
returns-then-plan-k c =
    let x = c.args.x in
    let array = c.number-groups.ensures in
    let n = array.counted in
    let next = c.loop-i-test.true in
    let h : c.loop-i.i < length (bytes_of x) = omega arith in
    elim c.then-plan-k.branch [
      | then-plan-k-via-then-plan-k w ↦ bytes-lack c.loop-i.invariant h w.if-plan-k.true
      | then-plan-k-via-else-plan-k+then-plan-k-2 w ↦
          bytes-other c.loop-i.invariant h w.if-plan-k.false
          (λ e. w.if-plan-k-2.true (e ∙ sym (array-byte (bytes_of x) max_groups _ array.stored (bytes-length x).1 h)))
    ]

pub loop-i-preserved : goal.loop-i-preserved
loop-i-preserved c =
    let x = c.args.x in
    let array = c.number-groups.ensures in
    let n = array.counted in
    let next = c.loop-i-test.true in
    let h : c.loop-i.i < length (bytes_of x) = omega arith in
    bytes-turn c.loop-i.invariant h c.if-plan-k.false (c.if-plan-k-2.false ∙ array-byte (bytes_of x) max_groups _ array.stored
    (bytes-length x).1 h)

pub returns : goal.returns
returns c =
    let n = c.number-groups.ensures.counted in
    let t = c.loop-i-test.false in
    let all : c.number-groups.result.count ≡ c.loop-i.i = omega (arith, c.loop-i.auto.i-end) in
    rw all (bytes-stop c.loop-i.invariant (omega arith))
