-- Proves that `write_line` writes the line part by part: at each place a law of Lines tells what is left of it.
-- Assumes nothing.
use Rattle.std.proofs.Common.{[], ◌∷◌, ◌+◌, ◌≤◌, length, arith, rules}
use Rattle.papers.specs.Text.{printed}
use Rattle.list_laws.proofs.Writing.{Reached}
use Rattle.listing_lines.proofs.Lines.{tail, word_fits, behind-word, number_fits, behind-number, behind-one, behind-two}
use Rattle.listing_lines.proofs.Lines.{end_fits, line-done}
use Rattle.listing_lines.proofs.write_line.Goals as goal
use Rattle.listing_lines.proofs.write_line.Goals.{After-write_number-end, Start}

-- the line fits
fits : (c : Start) → 0 + length (printed c.args.word.now (c.args.a ∷ c.args.b ∷ c.args.c ∷ [])) ≤ length c.args.bytes.now
fits c = omega (arith, c.requires)

-- the word and the three numbers are written
abbrev numbers-written : (c : After-write_number-end)
    → Reached (printed c.args.word.now (c.args.a ∷ c.args.b ∷ c.args.c ∷ []))
    c.args.bytes.now 0 (tail [])
numbers-written c =
    record {
      slice = _;
      place = _;
      left = behind-number _ [] (behind-two _ _ _ _ _ 0 c.write_word-first.ensures c.write_number-second.ensures
          c.write_number-third.ensures) c.write_number-end.ensures;
    }

pub write_word-first-requires : goal.write_word-first-requires
write_word-first-requires c = word_fits _ _ c.args.bytes.now 0 (fits (goal.at.write_word-first-requires c).Start)

pub write_number-second-requires : goal.write_number-second-requires
write_number-second-requires c =
    number_fits _ _ (behind-word _ _ _ 0 c.write_word-first.ensures) (fits (goal.at.write_number-second-requires c).Start)

pub write_number-third-requires : goal.write_number-third-requires
write_number-third-requires c =
    number_fits _ _ (behind-one _ _ _ _ _ 0 c.write_word-first.ensures c.write_number-second.ensures)
    (fits (goal.at.write_number-third-requires c).Start)

pub write_number-end-requires : goal.write_number-end-requires
write_number-end-requires c =
    number_fits _ _ (behind-two _ _ _ _ _ 0 c.write_word-first.ensures c.write_number-second.ensures
    c.write_number-third.ensures) (fits (goal.at.write_number-end-requires c).Start)

pub bounds-bytes-end : goal.bounds-bytes-end
bounds-bytes-end c = end_fits (numbers-written (goal.at.bounds-bytes-end c).After-write_number-end).left (fits (goal.at.bounds-bytes-end c).Start)

pub overflow_add-result : goal.overflow_add-result
overflow_add-result c =
    let l = (line-done (numbers-written (goal.at.overflow_add-result c).After-write_number-end).left).place in
    let p = c.requires in
    search rules

pub returns : goal.returns
returns c = line-done (numbers-written (goal.at.returns c).After-write_number-end).left
