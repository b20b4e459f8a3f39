-- Proves that slices of the same lengths behave alike: if the ones are long enough, so are the others, and once cleared they are equal.
-- Assumes nothing.
use Prim.Native.Nat.{ℕ, ◌≤◌}
use mathlib.Core.Path.{◌≡◌, sym, ap, ◌∙◌}
use mathlib.Core.List.{List}
use native.Mathlib.Omega.{arith}
use lib.ListN.{length, take, replicate}
use lib.Seq.{length-take-le}
use Rattle.papers.specs.Analysis.{Lent, all_zero, fixed_lengths, LongEnough}
use Rattle.job_laws.proofs.Firsts.{◌&◌}
use Rattle.lent.proofs.Sixes.{sixes}

-- a part of n places has n places
pub part-long : (n : ℕ) (l : List ℕ) → n ≤ length l → n ≡ length (take n l)
part-long n l h = sym (length-take-le n l h)

-- ---- slices of the same lengths

pub record Alike (before lent : Lent) : Type 0 where
  pub parents : length lent.parents ≡ length before.parents
  pub order : length lent.order ≡ length before.order
  pub pops : length lent.pops ≡ length before.pops
  pub starts : length lent.factor_starts ≡ length before.factor_starts
  pub rows : length lent.factor_rows ≡ length before.factor_rows
  pub work : length lent.work ≡ length before.work

-- once cleared, they are equal
pub zeros-alike : (before lent : Lent) {after : Lent} → Alike before lent → after ≡ all_zero lent → after ≡ all_zero before
unfolding all_zero
zeros-alike before lent a e =
    e ∙ sixes (zeros-as a.parents) (zeros-as a.order) (zeros-as a.pops) (zeros-as a.starts) (zeros-as a.rows) (zeros-as a.work)
  where
    zeros-as : {k m : ℕ} → k ≡ m → replicate {A = ℕ} k 0 ≡ replicate m 0
    zeros-as e = ap (λ (k : ℕ). replicate {A = ℕ} k 0) e

-- if the ones are long enough, so are the others
pub long-alike : {n : ℕ} {before lent : Lent} → Alike before lent → LongEnough (fixed_lengths n before) → LongEnough (fixed_lengths n lent)
long-alike a long =
    rw a.parents (omega (arith, long))
    & rw a.order (omega (arith, long))
    & rw a.pops (omega (arith, long))
    & rw a.starts (omega (arith, long))
    & rw a.work (omega (arith, long))
    & tt
