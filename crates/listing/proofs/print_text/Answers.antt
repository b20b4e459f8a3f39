-- Proves that `print_text` prints the line of a text that is refused; the first places of the buffers hold the job of any other text, and what is
-- printed of the job is what is printed of the text.
-- Assumes nothing.
use Rattle.std.proofs.Common.{sym, ap, length, arith, length-take-le}
use Rattle.list_laws.proofs.Writing.{wrote_as}
use Rattle.listing.proofs.Told.{told-refusal, found-columns, starts-long, rows_long, found-printed}
use Rattle.listing.proofs.print_text.Goals as goal

pub write_refusal-requires : goal.write_refusal-requires
write_refusal-requires c =
    omega (arith, ap length (told-refusal c.in-Err.ensures c.from.ensures c.from-in-Err.ensures), c.requires)

pub returns-in-Err : goal.returns-in-Err
returns-in-Err c = wrote_as (told-refusal c.in-Err.ensures c.from.ensures c.from-in-Err.ensures) c.write_refusal.ensures

pub overflow_add-starts : goal.overflow_add-starts
overflow_add-starts c = omega (arith, found-columns c.in-Ok.ensures)

pub slice_bounds-starts-end : goal.slice_bounds-starts-end
slice_bounds-starts-end c = starts-long c.in-Ok.ensures

pub slice_bounds-job-end : goal.slice_bounds-job-end
slice_bounds-job-end c = sym (length-take-le _ _ (starts-long c.in-Ok.ensures))

pub slice_bounds-rows-end : goal.slice_bounds-rows-end
slice_bounds-rows-end c = rows_long c.in-Ok.ensures

pub slice_bounds-job-end-in-Ok : goal.slice_bounds-job-end-in-Ok
slice_bounds-job-end-in-Ok c = sym (length-take-le _ _ (rows_long c.in-Ok.ensures))

pub print_job-requires : goal.print_job-requires
print_job-requires c =
    record {
      columns = found-columns c.in-Ok.ensures;
      fits = omega (arith, ap length (found-printed c.in-Ok.ensures), c.requires);
    }

pub returns-in-Ok : goal.returns-in-Ok
returns-in-Ok c = wrote_as (found-printed c.in-Ok.ensures) c.print_job.ensures
