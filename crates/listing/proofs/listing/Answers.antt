-- Proves that `listing` answers right: one law covers a slice too short for any listing, and one what is printed in the cleared slice.
-- Assumes nothing.
use Rattle.listing.proofs.Ways.{way-short, prints-fit, way-printed}
use Rattle.listing.proofs.listing.Goals as goal

pub returns-then-bytes-lt-LISTING_BYTES : goal.returns-then-bytes-lt-LISTING_BYTES
returns-then-bytes-lt-LISTING_BYTES c =
    way-short (record { text = c.args.text.now; more = c.args.more }) c.args.bytes.now
    c.if-bytes-lt-LISTING_BYTES.true c.from.ensures

pub print_text-printed-requires : goal.print_text-printed-requires
print_text-printed-requires c =
    prints-fit _ c.args.bytes.now c.if-bytes-lt-LISTING_BYTES.false (c.fill.ensures.after (λ y e. e))

pub returns : goal.returns
returns c =
    way-printed (record { text = c.args.text.now; more = c.args.more }) c.args.bytes.now
    c.if-bytes-lt-LISTING_BYTES.false (c.fill.ensures.after (λ y e. e)) c.print_text-printed.ensures c.done.ensures
