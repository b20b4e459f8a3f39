-- Proves what one field gives: its value if the number is in its range; else a refusal, if the number is out of its range, ended or not in
-- shortest form.
-- Assumes nothing.
use Prim.Native.Nat.{ℕ, ◌+◌, ◌<◌, ◌≤◌}
use mathlib.Core.Path.{◌≡◌}
use mathlib.Core.Logic.{◌⊎◌, inl, inr}
use mathlib.Core.List.{List}
use native.Mathlib.Omega.{arith}
use borrow.Author.Tests.{lt-ltb, le-ltb}
use Rattle.papers.specs.Numbers.{number_read_from, Read, got, bad, within_field, field}
use Rattle.papers.specs.declared.NumberFault.TheVariants.{Ended, TooLong, NotShortest}
use Rattle.std.specs.Prelude.{Ok, Err}
use Rattle.list_laws.proofs.Tests.{below_or}

pub bad-inj : {A : Type 0} {a b p q : ℕ} → ◌≡◌ {A = Read A} (bad a p) (bad b q) → (a ≡ b) × (p ≡ q)
bad-inj e = (cc, cc)

module _ (lo hi : ℕ) (s : List ℕ) (at : ℕ) where
  pub in-range : (v to : ℕ) → number_read_from s at ≡ Ok (v, to) → lo ≤ v → v ≤ hi → field lo hi s at ≡ got v to
  unfolding field within_field
  in-range v to e l h = rw (e, le-ltb v lo l, le-ltb hi v h, within_field)

  pub out_of_range : (v to : ℕ) → number_read_from s at ≡ Ok (v, to) → (v < lo) ⊎ (hi < v) → field lo hi s at ≡ bad 14 (at + 1)
  unfolding field within_field
  out_of_range v to e o = go (below_or v lo) o
    where
      go : (v < lo) ⊎ (lo ≤ v) → (v < lo) ⊎ (hi < v) → field lo hi s at ≡ bad 14 (at + 1)
      go (inl l) o = rw (e, lt-ltb v lo l, within_field)
      go (inr l) (inl k) = absurd (omega arith)
      go (inr l) (inr h) = rw (e, le-ltb v lo l, lt-ltb hi v h, within_field)

  pub ended : number_read_from s at ≡ Err Ended → field lo hi s at ≡ bad 12 (at + 1)
  unfolding field within_field
  ended e = rw e

  pub not-shortest : (number_read_from s at ≡ Err TooLong) ⊎ (number_read_from s at ≡ Err NotShortest) → field lo hi s at ≡ bad 13 (at + 1)
  unfolding field within_field
  not-shortest (inl e) = rw e
  not-shortest (inr e) = rw e
