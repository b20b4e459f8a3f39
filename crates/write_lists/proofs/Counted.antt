-- Proves that the numbers of a list are its count, then its gaps.
-- Assumes nothing.
use Prim.Native.Nat.{ℕ, ◌-◌, ◌≤◌}
use mathlib.Core.Path.{◌≡◌, ap}
use mathlib.Core.List.{List, ◌∷◌}
use lib.Seq.{slice, length-slice}
use Rattle.papers.specs.Numbers.{bytes_of, encode}
use Rattle.papers.specs.Key.{gaps_of, list_numbers}
use Rattle.list_laws.specs.Wrote.{Wrote}
use Rattle.list_laws.proofs.Writing.{writes-all, writes-last}
use Rattle.bytes_laws.proofs.Writing.{writes-number}
use Rattle.write_gaps.specs.ListBetween.{ListBetween}
use Rattle.write_gaps.proofs.Rows.{WritesRows, gaps-stop}

pub list-is : {j : ℕ} {rows : List ℕ} {from to : ℕ} → ListBetween j rows from to
    → list_numbers j (slice from to rows) ≡ (to - from) ∷ gaps_of j (slice from to rows)
unfolding list_numbers
list-is {j} {rows} {from} {to} l = ap (λ (n : ℕ). n ∷ gaps_of j (slice from to rows)) (length-slice from to rows l.inside)

-- writes the count, then the gaps
pub list-stop : {entry : List ℕ} {at j : ℕ} {rows : List ℕ} {from to first : ℕ} {d₀ d : List ℕ} {next before i : ℕ} → ListBetween j rows from to
    → Wrote (bytes_of (to - from)) entry d₀ at first → WritesRows j rows from to d₀ first d next before i → to ≤ i
    → Wrote (encode (list_numbers j (slice from to rows))) entry d at next
list-stop l count w h = writes-last (writes-number writes-all (list-is l) count) (gaps-stop w h)
