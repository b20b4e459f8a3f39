-- Proves that the job read from a text is the job that is printed: the first places of the buffers hold its lists, with rows as they are kept, and
-- this changes neither the analysis nor what is printed.
-- Assumes nothing.
use Rattle.std.proofs.Common.{ℕ, ◌+◌, ◌≤◌, ◌≡◌, sym, ap, ◌∙◌, List, map, arith, length, take}
use lib.ListN.{replicate, length-map, length-replicate}
use lib.Seq.{sets, length-sets}
use Rattle.papers.specs.declared.Answer.{Answer}
use Rattle.papers.specs.declared.JobHead.{JobHead}
use Rattle.papers.specs.Bounds.{program_columns, program_rows}
use Rattle.papers.specs.Job.{Job, job_of}
use Rattle.papers.specs.Text.{Input, text_job, refusal_line, buffers, program_prints}
use Rattle.list_laws.specs.Wrote.{Wrote}
use Rattle.list_laws.proofs.Stores.{stored-at-start}
use Rattle.text_laws.proofs.Printed as printed
use Rattle.lent.specs.Six.{zeroes}
use Rattle.text_lines.specs.Narrowed.{narrowed}
use Rattle.refusals.specs.declared.Fault.{Fault}
use Rattle.refusals.specs.declared.Refused.{Refused}
use Rattle.refusals.specs.Answers.{answer_refusing, refused_without_count}
use Rattle.text_reader.specs.Reading.{JobKept, TextRefused, kept_job}
use Rattle.text_reader.proofs.KeptJobs.{kept-printed}
use Rattle.text_reader.proofs.Sizes.{Sizes, passed-sizes}
use Rattle.listing_plan.specs.PlanLines.{printed_from}

-- the start of a slice holds the numbers that were stored there
at-start : (xs l : List ℕ) (k : ℕ) {m : List ℕ} → m ≡ sets l 0 xs → length xs ≡ k → k ≤ length l → take k m ≡ xs
at-start xs l k s e h = rw (s, ← e) (stored-at-start l xs (omega arith))

same-job : (j : Job) {n mark limit : ℕ} {starts rows : List ℕ} → n ≡ j.n → starts ≡ j.starts → rows ≡ j.rows → mark ≡ j.mark → limit ≡ j.limit
    → job_of (record { n = n; mark = mark; limit = limit }) starts rows ≡ j
same-job j a b c d e i = record { n = a i; starts = b i; rows = c i; mark = d i; limit = e i }

-- ---- a text that is refused

pub told-refusal : {input : Input} {fault : Fault} → TextRefused input fault → {r : Refused} → r ≡ refused_without_count fault
    → {a : Answer} → a ≡ answer_refusing r
    → program_prints input ≡ refusal_line a
told-refusal {input} t e f = rw (f, e) (printed.text-refused input t.refuses)

-- ---- a text whose job was read

-- into the program's zeroed buffers
module _ {input : Input} {starts rows : List ℕ} {head : JobHead} {count : ℕ} (f : JobKept input (replicate (program_columns + 1) 0)
    (replicate program_rows 0) starts rows head count) where
  sizes : Sizes input.text
  sizes = passed-sizes input f.passes

  columns : head.n ≡ (text_job input.text).n
  columns = ap (λ (h : JobHead). h.n) f.headed

  pub found-columns : head.n ≤ program_columns
  found-columns = omega (arith, columns, sizes.columns)

  pub found_rows : count ≤ program_rows
  found_rows = omega (arith, f.counted, sizes.rows)

  wide : length {A = ℕ} (replicate (program_columns + 1) 0) ≡ program_columns + 1
  wide = length-replicate {A = ℕ} (program_columns + 1) 0

  long : length {A = ℕ} (replicate program_rows 0) ≡ program_rows
  long = length-replicate {A = ℕ} program_rows 0

  pub starts-long : head.n + 1 ≤ length starts
  starts-long =
      omega (arith, found-columns, ap length f.started, length-sets (replicate (program_columns + 1) 0) 0 (text_job input.text).starts, wide)

  pub rows_long : count ≤ length rows
  rows_long =
      omega (arith, found_rows, ap length f.kept, length-sets (replicate program_rows 0) 0 (map narrowed (text_job input.text).rows), long)

  job_is : job_of head (take (head.n + 1) starts) (take count rows) ≡ kept_job (text_job input.text)
  job_is =
      let job = text_job input.text in
      same-job (kept_job job) columns
      (at-start job.starts (replicate (program_columns + 1) 0) (head.n + 1) f.started (omega (arith, columns, sizes.starts))
      (omega (arith, found-columns, wide)))
      (at-start (map narrowed job.rows) (replicate program_rows 0) count f.kept (omega (arith, f.counted, length-map job.rows narrowed))
      (omega (arith, found_rows, long)))
      (ap (λ (h : JobHead). h.mark) f.headed) (ap (λ (h : JobHead). h.limit) f.headed)

  -- what is printed of the job is what is printed of the text
  pub found-printed : program_prints input ≡ printed_from (job_of head (take (head.n + 1) starts) (take count rows)) buffers
  unfolding program_prints
  found-printed =
      rw (f.passes, program_prints) (sym (kept-printed (text_job input.text) buffers) ∙ ap (λ (j : Job). printed_from j buffers) (sym job_is))

-- ---- zeroed slices of the program's sizes are its buffers

module _ (job : Job) where
  pub fits_in : {n : ℕ} → length (printed_from job buffers) ≤ n → length (printed_from job zeroes) ≤ n
  unfolding buffers
  fits_in h = h

  pub printed-in : {bytes₀ bytes : List ℕ} {r : ℕ} → Wrote (printed_from job zeroes) bytes₀ bytes 0 r
      → Wrote (printed_from job buffers) bytes₀ bytes 0 r
  unfolding buffers
  printed-in w = w
