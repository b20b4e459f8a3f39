-- Proves that `print_analysis` prints the line of a refusal, or the listing of the job's plan, which parts of the slices hold after an analysis that
-- is done.
-- Assumes nothing.
use Rattle.std.proofs.Common.{sym, ap, length, arith, length-take-le}
use Rattle.job.specs.Given.{job_given}
use Rattle.list_laws.proofs.Writing.{wrote_as}
use Rattle.lent.specs.Six.{six_slices}
use Rattle.listing_plan.proofs.Analysed.{refused-printed, Done, done-lies, done-steps, done-printable, done-printed}
use Rattle.listing_plan.proofs.print_analysis.Goals as goal
use Rattle.listing_plan.proofs.print_analysis.Goals.{Else-answer-ne0}

-- the analysis is done
abbrev done : (c : Else-answer-ne0)
    → Done (job_given c.args.job)
    (six_slices c.args.parents.now c.args.order.now c.args.pops.now c.args.fstarts.now
    c.args.frows.now c.args.work.now)
done c = record { answered = _; after = _; ends = c.analyse-answer.ensures; zero = c.if-answer-ne0.false }

pub write_refusal-requires : goal.write_refusal-requires
write_refusal-requires c =
    omega (arith, ap length (refused-printed _ _ c.analyse-answer.ensures c.if-answer-ne0.true), c.requires.fits)

pub returns-then-answer-ne0 : goal.returns-then-answer-ne0
returns-then-answer-ne0 c =
    wrote_as (refused-printed _ _ c.analyse-answer.ensures c.if-answer-ne0.true)
    c.write_refusal.ensures

pub bounds-fstarts-n : goal.bounds-fstarts-n
bounds-fstarts-n c = omega (arith, (done-lies (done (goal.at.bounds-fstarts-n c).Else-answer-ne0)).starts-long)

pub slice_bounds-factor-end : goal.slice_bounds-factor-end
slice_bounds-factor-end c = (done-lies (done (goal.at.slice_bounds-factor-end c).Else-answer-ne0)).starts-long

pub slice_bounds-factor-end-2 : goal.slice_bounds-factor-end-2
slice_bounds-factor-end-2 c = sym (length-take-le _ _ (done-lies (done (goal.at.slice_bounds-factor-end-2 c).Else-answer-ne0)).starts-long)

pub slice_bounds-factor-end-3 : goal.slice_bounds-factor-end-3
slice_bounds-factor-end-3 c = (done-lies (done (goal.at.slice_bounds-factor-end-3 c).Else-answer-ne0)).rows_long

pub slice_bounds-factor-end-4 : goal.slice_bounds-factor-end-4
slice_bounds-factor-end-4 c = sym (length-take-le _ _ (done-lies (done (goal.at.slice_bounds-factor-end-4 c).Else-answer-ne0)).rows_long)

pub slice_bounds-print_plan-end : goal.slice_bounds-print_plan-end
slice_bounds-print_plan-end c = (done-lies (done (goal.at.slice_bounds-print_plan-end c).Else-answer-ne0)).order-long

pub slice_bounds-print_plan-end-2 : goal.slice_bounds-print_plan-end-2
slice_bounds-print_plan-end-2 c = sym (length-take-le _ _ (done-lies (done (goal.at.slice_bounds-print_plan-end-2 c).Else-answer-ne0)).order-long)

pub slice_bounds-print_plan-end-3 : goal.slice_bounds-print_plan-end-3
slice_bounds-print_plan-end-3 c = (done-lies (done (goal.at.slice_bounds-print_plan-end-3 c).Else-answer-ne0)).pops-long

pub slice_bounds-print_plan-end-4 : goal.slice_bounds-print_plan-end-4
slice_bounds-print_plan-end-4 c = sym (length-take-le _ _ (done-lies (done (goal.at.slice_bounds-print_plan-end-4 c).Else-answer-ne0)).pops-long)

pub print_plan-requires : goal.print_plan-requires
print_plan-requires c =
    record {
      printable = done-printable (done (goal.at.print_plan-requires c).Else-answer-ne0);
      wide = omega (arith, done-steps (done (goal.at.print_plan-requires c).Else-answer-ne0), c.requires.wide);
      fits = omega (arith, ap length (done-printed (done (goal.at.print_plan-requires c).Else-answer-ne0)), c.requires.fits);
    }

pub returns : goal.returns
returns c = wrote_as (done-printed (done (goal.at.returns c).Else-answer-ne0)) c.print_plan.ensures
