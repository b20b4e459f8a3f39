-- Proves how the first rows that two lists share are counted: an equal row counts one more, and a count from two places on tells what the whole lists
-- hold there.
-- Assumes nothing.
use Prim.Native.Nat.{ℕ, ◌+◌, ◌-◌, ◌<◌, ◌≤◌, min}
use mathlib.Core.Path.{◌≡◌}
use mathlib.Core.Logic.{◌≢◌}
use mathlib.Core.List.{List}
use native.Mathlib.Omega.{arith}
use lib.ListN.{length, get_or, length-drop}
use lib.Seq.{get_or-drop}
use Rattle.list_laws.specs.Parts.{part}
use Rattle.list_laws.proofs.Tests.{Compare, below, level, above, compare}
use Rattle.list_laws.proofs.Parts.{part-last}
use Rattle.run_front.specs.Search.{SameFirst, Alike}

module _ {a b : List ℕ} {i : ℕ} (s : SameFirst a b i) where
  pub same_next : i < min (length a) (length b) → get_or a i 0 ≡ get_or b i 0 → SameFirst a b (i + 1)
  same_next h e = record { in-first = omega arith; in-second = omega arith; same = λ k l. go k l (compare k i) }
    where
      go : (k : ℕ) → k < i + 1 → Compare k i → get_or a k 0 ≡ get_or b k 0
      go k l (below u) = s.same k u
      go k l (level d) = rw d e
      go k l (above u) = absurd (omega arith)

-- a list from a place on
abbrev pub from : List ℕ → ℕ → List ℕ
from l i = part i (length l) l

get_d-from : (l : List ℕ) (i k : ℕ) → get_or (from l i) k 0 ≡ get_or l (i + k) 0
get_d-from l i k = rw (part-last l i) (get_or-drop i l k 0)

length_from : (l : List ℕ) (i : ℕ) → length (from l i) ≡ length l - i
length_from l i = rw (part-last l i) (length-drop i l)

module _ (a b : List ℕ) (i j : ℕ) where
  module _ {count : ℕ} (l : Alike (from a i) (from b j) count) where
    pub in-first-from : i ≤ length a → i + count ≤ length a
    in-first-from h = let q = l.first.in-first in omega (arith, length_from a i)

    pub in-second-from : j ≤ length b → j + count ≤ length b
    in-second-from h = let q = l.first.in-second in omega (arith, length_from b j)

    pub same_from : (k : ℕ) → k < count → get_or a (i + k) 0 ≡ get_or b (j + k) 0
    same_from k h = rw (← get_d-from a i k, ← get_d-from b j k) (l.first.same k h)

  pub differ-from : Alike (from a i) (from b j) 0 → i < length a → j < length b → get_or a i 0 ≢ get_or b j 0
  differ-from l h u e =
      let p : i + 0 ≡ i = omega arith in
      let q : j + 0 ≡ j = omega arith in
      l.differ (omega (arith, length_from a i)) (omega (arith, length_from b j)) (rw (get_d-from a i 0, get_d-from b j 0, p, q) e)
