-- Proves that `print_plan` prints the listing: the header, then the steps behind it.
-- Assumes nothing.
use Rattle.std.proofs.Common.{ℕ, List, [], ◌∷◌, length, arith}
use Rattle.papers.specs.Text.{word_plan, printed}
use Rattle.list_laws.proofs.Writing.{wrote-both, first_fits, second_fits}
use Rattle.listing_steps.specs.Steps.{lines_to}
use Rattle.listing_plan.proofs.print_plan.Goals as goal
use Rattle.listing_plan.proofs.print_plan.Goals.{Start}

-- the two parts of the listing
abbrev header : Start → List ℕ
header c = printed word_plan (c.args.head.n ∷ c.args.head.mark ∷ c.args.peak ∷ [])

abbrev lines : Start → List ℕ
lines c =
    lines_to c.args.order.now c.args.pops.now c.args.factor.starts.now c.args.factor.rows.now (length c.args.order.now)

pub write_header-first-requires : goal.write_header-first-requires
write_header-first-requires c = first_fits (header (goal.at.write_header-first-requires c).Start)
    (lines (goal.at.write_header-first-requires c).Start) c.requires.fits

pub write_steps-requires : goal.write_steps-requires
write_steps-requires c =
    record {
      printable = c.requires.printable;
      wide = c.requires.wide;
      fits = second_fits (header (goal.at.write_steps-requires c).Start) (lines (goal.at.write_steps-requires c).Start) c.write_header-first.ensures
          (omega (arith, c.requires.fits));
    }

pub returns : goal.returns
returns c = wrote-both c.write_header-first.ensures c.write_steps.ensures
