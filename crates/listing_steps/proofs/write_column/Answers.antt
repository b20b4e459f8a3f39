-- Proves that `write_column` writes the line with the column's own rows: the lists hand on those of column j - 1 + 1, and that is column j.
-- Assumes nothing.
use Rattle.std.proofs.Common.{◌≡◌, ℕ, ◌+◌, ◌-◌, ◌<◌, List, arith}
use Rattle.papers.specs.Job.{column_of}
use Rattle.listing_steps.proofs.write_column.Goals as goal

-- columns are numbered from 1
numbered : (j : ℕ) → 0 < j → j - 1 + 1 ≡ j
numbered j some = omega arith

-- the rows that are handed on
list-is : (starts rows list : List ℕ) (j : ℕ) → 0 < j → list ≡ column_of starts rows (j - 1 + 1) → list ≡ column_of starts rows j
list-is starts rows list j some e = rw (numbered j some) at e

pub column-requires : goal.column-requires
column-requires c =
    let starts = c.requires.column in
    record {
      started = omega (arith, starts.some, starts.known);
      rises = rw (numbered _ starts.some) starts.rise;
      ends = rw (numbered _ starts.some) c.requires.inside;
    }

pub write_step-requires : goal.write_step-requires
write_step-requires c = rw (list-is _ _ _ _ c.requires.column.some c.column.ensures) c.requires.fits

pub returns : goal.returns
returns c = rw (← (list-is _ _ _ _ c.requires.column.some c.column.ensures)) c.write_step.ensures
