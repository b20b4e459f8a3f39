-- Proves that `write_decimal` writes a number: one digit, or the digits of its tenth and then its last digit. The tenth is smaller than the number.
-- Assumes nothing.
use Rattle.std.proofs.Common.{arith, rules}
use Rattle.listing_lines.proofs.Digits.{one-fits, one_written, last_fits, last_written}
use Rattle.listing_lines.proofs.+write_decimal.Goals as goal

pub bounds-bytes-at : goal.bounds-bytes-at
bounds-bytes-at t c = let e = c.args in one-fits e.x e.at e.bytes.now c.if-x-lt10.true c.requires

pub returns-then-x-lt10 : goal.returns-then-x-lt10
returns-then-x-lt10 t c = let e = c.args in one_written e.x e.at e.bytes.now c.if-x-lt10.true

pub write_decimal-last-requires : goal.write_decimal-last-requires
write_decimal-last-requires t c =
    let e = c.args in
    let last = last_fits e.x e.at e.bytes.now c.if-x-lt10.false c.requires in
    (omega arith, omega arith)

pub bounds-bytes-last : goal.bounds-bytes-last
bounds-bytes-last t c =
    let e = c.args in
    omega (arith, last_fits e.x e.at e.bytes.now c.if-x-lt10.false c.requires, c.write_decimal-last.ensures.place)

pub overflow_add-result-2 : goal.overflow_add-result-2
overflow_add-result-2 t c =
    let e = c.args in
    let last = last_fits e.x e.at e.bytes.now c.if-x-lt10.false c.requires in
    let place = c.write_decimal-last.ensures.place in
    search rules

pub returns : goal.returns
returns t c = let e = c.args in last_written e.x e.at e.bytes.now c.if-x-lt10.false c.write_decimal-last.ensures
