-- Proves that `write_step` writes the line part by part: at each place a law of Lines tells what is left of it.
-- Assumes nothing.
use Rattle.std.proofs.Common.{[], ◌∷◌, rules}
use Rattle.papers.specs.Text.{decimal_of, printed}
use Rattle.list_laws.proofs.Writing.{Reached}
use Rattle.listing_lines.proofs.Lines.{tail, word_fits, behind-word, number_fits, numbers_fit, behind-numbers, behind-one, behind-two}
use Rattle.listing_lines.proofs.Lines.{end_fits, line-done}
use Rattle.listing_steps.proofs.write_step.Goals as goal
use Rattle.listing_steps.proofs.write_step.Goals.{After-write_rows-end}

-- the column, its pops, its room and its rows are written
abbrev rows_written : (c : After-write_rows-end)
    → Reached (printed (decimal_of c.args.column) (c.args.pops ∷ c.args.room ∷ c.args.rows.now))
    c.args.bytes.now c.args.at (tail [])
rows_written c =
    record {
      slice = _;
      place = _;
      left = behind-numbers _ (behind-two _ _ _ _ _ _ c.write_decimal-first.ensures c.write_number-second.ensures
          c.write_number-third.ensures) c.write_rows-end.ensures;
    }

pub write_decimal-first-requires : goal.write_decimal-first-requires
write_decimal-first-requires c = word_fits _ _ c.args.bytes.now _ c.requires

pub write_number-second-requires : goal.write_number-second-requires
write_number-second-requires c =
    number_fits _ _ (behind-word _ _ _ _ c.write_decimal-first.ensures) c.requires

pub write_number-third-requires : goal.write_number-third-requires
write_number-third-requires c =
    number_fits _ _ (behind-one _ _ _ _ _ _ c.write_decimal-first.ensures c.write_number-second.ensures)
    c.requires

pub write_rows-end-requires : goal.write_rows-end-requires
write_rows-end-requires c =
    numbers_fit _ (behind-two _ _ _ _ _ _ c.write_decimal-first.ensures c.write_number-second.ensures
    c.write_number-third.ensures) c.requires

pub bounds-bytes-end : goal.bounds-bytes-end
bounds-bytes-end c = end_fits (rows_written (goal.at.bounds-bytes-end c).After-write_rows-end).left c.requires

pub overflow_add-result : goal.overflow_add-result
overflow_add-result c =
    let l = (line-done (rows_written (goal.at.overflow_add-result c).After-write_rows-end).left).place in
    let p = c.requires in
    search rules

pub returns : goal.returns
returns c = line-done (rows_written (goal.at.returns c).After-write_rows-end).left
