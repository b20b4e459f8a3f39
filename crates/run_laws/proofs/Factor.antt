-- Proves that the lists R(j) of a pattern, handed to a run, pass 4, 5 and 6, and that the rows of every column are then its R(j).
-- Assumes nothing.
use Prim.Native.Nat.{ℕ, zero, suc, ◌<◌, ◌≤◌}
use mathlib.Core.Path.{◌≡◌, refl, sym, ◌∙◌}
use mathlib.Core.Logic.{◌⊎◌, inl, inr}
use mathlib.Core.List.Memᴰ
use mathlib.Core.List.{List, [], ◌∷◌}
use native.Mathlib.Omega.{arith}
use lib.ListN.{length}
use Rattle.papers.specs.Lists.{flat, starts_counted_from}
use Rattle.papers.specs.Job.{Pattern, Below, column_of}
use Rattle.papers.specs.Fill.{R}
use Rattle.papers.specs.Key.{lists_of}
use Rattle.papers.specs.Run.{RunCall, rows_in_factor}
use Rattle.job_laws.specs.Passed.{PassedLists}
use Rattle.list_laws.proofs.Tests.{below_or}
use Rattle.fill_laws.proofs.Fill.{R-asc, R-range}
use Rattle.job_laws.proofs.Passed.{no-column-over, lists-below}
use Rattle.job_laws.proofs.Laid.{length-lists, lists_at, laid-column}
use Rattle.job_laws.proofs.Keys.{lists-fit}
use Rattle.job_laws.proofs.Readable.{laid-pass}
use Rattle.order_laws.proofs.Orders.{ordered-length}
use Rattle.run_laws.specs.Follows.{Follows}

module _ {n : ℕ} {A : Pattern} (below : Below n A) where
  abbrev ls : List (List ℕ)
  ls = lists_of n (R A)

  factor-pass : PassedLists n (starts_counted_from 0 (lists_of n (R A))) (flat (lists_of n (R A)))
  factor-pass = laid-pass n ls (length-lists (R A) n) (lists-fit n (R A) (λ j. (R-asc below j, λ i m. (R-range below j i m).1)) n)

  no-R-over : (c : ℕ) → n < c → R A c ≡ []
  no-R-over c h = go (R A c) refl
    where
      go : (l : List ℕ) → R A c ≡ l → l ≡ []
      go [] e = refl
      go (x ∷ xs) e = absurd (omega (arith, R-range below c x (rw e (Memᴰ.head refl))))

  factor-column : (c : ℕ) → column_of (starts_counted_from 0 (lists_of n (R A))) (flat (lists_of n (R A))) c ≡ R A c
  unfolding R
  factor-column zero = (lists-below n (starts_counted_from 0 ls) (flat ls) factor-pass).none
  factor-column (suc c) = go (below_or c n)
    where
      go : (c < n) ⊎ (n ≤ c) → column_of (starts_counted_from 0 ls) (flat ls) (suc c) ≡ R A (suc c)
      go (inl h) = laid-column ls c (omega (arith, length-lists (R A) n)) ∙ lists_at (R A) n c h
      go (inr h) = no-column-over n (starts_counted_from 0 ls) (flat ls) factor-pass (suc c) (omega arith) ∙ sym (no-R-over (suc c) (omega arith))

module _ {A : Pattern} {call : RunCall} (f : Follows A call) where
  -- the lists pass 4, 5 and 6
  pub lists-pass : PassedLists call.n call.starts call.rows
  lists-pass = rw (f.starts, f.rows) (factor-pass f.below)

  -- the rows of every column are its R(j)
  pub rows_in : (c : ℕ) → rows_in_factor call c ≡ R A c
  unfolding rows_in_factor
  rows_in c = rw (f.starts, f.rows) (factor-column f.below c)

  pub columns-long : length call.columns ≡ call.n
  columns-long = ordered-length call.columns f.ordered
