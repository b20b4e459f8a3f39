-- Proves that a list which has all numbers of a list without repeats, and is no longer, has no repeats either.
-- Assumes nothing.
use Prim.Native.Nat.{ℕ, ◌≤◌}
use mathlib.Core.Path.{◌≡◌}
use mathlib.Core.Logic.{◌⊎◌, inl, inr}
use mathlib.Core.Bool.{Bool, not}
use mathlib.Core.List.Memᴰ
use mathlib.Core.List.{List, [], ◌∷◌}
use native.Mathlib.Omega.{arith}
use lib.Dec.{eqb}
use lib.ListN.{length}
use borrow.Author.Tests.{eqb-true, eqb-false, not-true}
use Rattle.papers.specs.Lists.{◌∈◌, Distinct, keep}
use Rattle.list_laws.proofs.Tests.{Test, passes, fails, test}
use Rattle.list_laws.proofs.Ascending.{drop_head}
use Rattle.list_laws.proofs.Keeps.{keep-from, keep-into, keep-distinct}
use Rattle.list_laws.proofs.Counts.{distinct-length}

pub distinct-by-count : (l k : List ℕ) → Distinct k → ((i : ℕ) → i ∈ k → i ∈ l) → length l ≤ length k → Distinct l
distinct-by-count [] k d h c = tt
distinct-by-count (x ∷ l) k d h c =
    (again, distinct-by-count l others (keep-distinct other k d) from (omega (arith, distinct-length k (x ∷ others) d into)))
  where
    other : ℕ → Bool
    other i = not (eqb i x)

    -- the numbers of k without x
    others : List ℕ
    others = keep other k

    from : (i : ℕ) → i ∈ others → i ∈ l
    from i m = let (a, b) = keep-from other k m in drop_head x (eqb-false i x (not-true (eqb i x) b)) (h i a)

    into : (i : ℕ) → i ∈ k → i ∈ (x ∷ others)
    into i m = go (test (eqb i x))
      where
        go : Test (eqb i x) → i ∈ (x ∷ others)
        go (passes e) = Memᴰ.head (eqb-true i x e)
        go (fails e) = Memᴰ.tail (keep-into other k m (rw e))

    -- x occurs once: if it occurred twice, the rest of l would have all of k
    again : ¬ (x ∈ l)
    again m = omega (arith, distinct-length k l d (λ i a. still i (Memᴰ.cases_cons (h i a))))
      where
        still : (i : ℕ) → (i ≡ x) ⊎ (i ∈ l) → i ∈ l
        still i (inl e) = Memᴰ.cast e m
        still i (inr t) = t
