-- Proves that `put` stores the bytes of x. Below 128 times 128 it stores one byte or two; else the loop stores those of the little array, and the
-- first i are stored.
-- Assumes nothing.
use Prim.Native.Nat.{◌+◌, ◌/◌, ◌%◌, ◌<◌}
use native.Mathlib.Omega.{arith}
use lib.ListN.{length}
use Rattle.papers.specs.Bounds.{max_groups}
use Rattle.papers.specs.Numbers.{bytes_of}
use Rattle.list_laws.proofs.Writing.{copied_none, copied_all}
use Rattle.bytes_laws.proofs.Numbers.{bytes-length}
use Rattle.groups.proofs.Written.{bytes_small, bytes-two}
use Rattle.write_number.proofs.Copies.{both_stored, copied_next}
use Rattle.write_number.proofs.put.Goals as goal

pub length-requires : goal.length-requires
length-requires c = c.requires.fits

pub overflow_add-next : goal.overflow_add-next
overflow_add-next c = omega (arith, bytes-length c.args.x, c.length.ensures)

pub returns-then-x-lt128 : goal.returns-then-x-lt128
returns-then-x-lt128 c =
    record {
      place = omega (arith, c.length.ensures);
      writes = rw (bytes_small c.args.x c.if-x-lt128.true) c.put_byte.ensures;
    }

pub returns-then-x-lt16384 : goal.returns-then-x-lt16384
returns-then-x-lt16384 c =
    let two = bytes-two c.args.x c.if-x-lt128.false c.if-x-lt16384.true in
    let low = c.put_byte-then-x-lt16384.ensures in
    let high = c.put_byte-then-x-lt16384-2.ensures in
    record {
      place = omega (arith, c.length.ensures);
      writes = rw two (both_stored c.args.dst.now c.args.at (c.args.x % 128 + 128)
          (c.args.x / 128) low high);
    }

pub number-groups-requires : goal.number-groups-requires
number-groups-requires c = c.requires.fits

pub loop-i-init : goal.loop-i-init
loop-i-init c = copied_none _ _ _

pub overflow_add-at-in-loop-i : goal.overflow_add-at-in-loop-i
overflow_add-at-in-loop-i c = omega (arith, bytes-length c.args.x)

pub bounds-bytes-i : goal.bounds-bytes-i
bounds-bytes-i c = omega (arith, bytes-length c.args.x)

pub loop-i-preserved : goal.loop-i-preserved
loop-i-preserved c =
    let x = c.args.x in
    let loop = c.loop-i in
    let array = c.number-groups.ensures in
    let there : loop.i < length (bytes_of x) = omega (arith, c.loop-i-test.true) in
    copied_next (bytes_of x) max_groups loop.i array.stored (bytes-length x).1 there loop.invariant c.put_byte-in-loop-i.ensures

pub shape_of-dst : goal.shape_of-dst
shape_of-dst c = c.loop-i.invariant.written.long

pub returns : goal.returns
returns c =
    record {
      place = omega (arith, c.length.ensures);
      writes = (copied_all c.loop-i.invariant (omega arith)).writes;
    }
