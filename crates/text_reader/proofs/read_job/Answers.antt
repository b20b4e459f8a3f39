-- Proves that `read_job` makes the tests of a text in their order, and answers the first that refuses. If all pass, the job is what line 1 and the
-- lines of rows hold.
-- Assumes nothing.
use Rattle.std.proofs.Common.{rules, ◌≡◌, Err, sym, ap}
use Rattle.refusals.specs.declared.Refusal.TheVariants.{BadText}
use Rattle.text_reader.proofs.Jobs.{told-head, told_more, told-long, told-bad-head, told-columns, told-bad-lines, told-job}
use Rattle.text_reader.proofs.read_job.Goals.{then-more-via-then-more, then-more-via-else-more+then-text-gt-INPUT_BYTES}
use Rattle.text_reader.proofs.read_job.Goals as goal

pub returns-then-more : goal.returns-then-more
returns-then-more c =
    rw c.fault_at_line.ensures (elim c.then-more.branch [
      | then-more-via-then-more w ↦ told_more w.if-more.true
      | then-more-via-else-more+then-text-gt-INPUT_BYTES w ↦ told-long w.if-more.false w.if-text-gt-INPUT_BYTES.true
    ])

pub returns-in_err-head : goal.returns-in_err-head
returns-in_err-head c =
    let e : c.from_residual.result ≡ Err (record { refusal = BadText; place = 1 }) = search rules in
    rw e (told-bad-head c.if-more.false c.if-text-gt-INPUT_BYTES.false (rw c.in_err-head.ensures.ok_part at c.read_head.ensures))

pub returns-then-head : goal.returns-then-head
returns-then-head c =
    rw c.fault_at_line-then-head.ensures (told-columns c.if-more.false c.if-text-gt-INPUT_BYTES.false
    (told-head (rw c.in_ok-head.ensures.ok_part at c.read_head.ensures)) c.if-head.true)

pub read_lines-requires : goal.read_lines-requires
read_lines-requires c =
    let x = told-head (rw c.in_ok-head.ensures.ok_part at c.read_head.ensures) in
    record { begins = x.ends; size = sym (ap (λ q. q.head.n) x.is); few = c.if-head.false; long = c.requires }

pub returns-in_err-count : goal.returns-in_err-count
returns-in_err-count c =
    let e : c.from_residual-in_err-count.result ≡ Err c.in_err-count.field-0.0 = search rules in
    rw e (told-bad-lines c.if-more.false c.if-text-gt-INPUT_BYTES.false
    (told-head (rw c.in_ok-head.ensures.ok_part at c.read_head.ensures)) c.if-head.false c.in_err-count.ensures)

pub returns : goal.returns
returns c =
    told-job c.if-more.false c.if-text-gt-INPUT_BYTES.false
    (told-head (rw c.in_ok-head.ensures.ok_part at c.read_head.ensures)) c.if-head.false c.in_ok-count.ensures
