-- Proves that `match_gaps` compares all gaps: those of the rows before i agree, so the others are compared from k on.
-- Assumes nothing.
use Prim.Native.Nat.{ℕ}
use mathlib.Core.List.{List}
use lib.Seq.{slice}
use Rattle.papers.specs.Key.{gaps_of}
use Rattle.write_gaps.proofs.Rows.{RowsLeft}
use Rattle.check_numbers.proofs.Numbers.{Left}
use Rattle.check_numbers.proofs.match_gaps.Given as goal

-- the gaps of the rows before i agree, up to k
pub record Gaps (plan : List ℕ) (at : ℕ) (rows : List ℕ) (from to j k before i : ℕ) : Type 0 where
  pub left : RowsLeft rows to before i
  pub found : Left (gaps_of j (slice from to rows)) plan at (gaps_of before (slice i to rows)) k

abbrev pub invariant-loop-i : goal.invariant-loop-i
invariant-loop-i l = Gaps l.plan l.at l.rows l.from l.to l.j l.k l.before l.i
