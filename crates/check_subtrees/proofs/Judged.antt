-- Proves that a column either strays from its parent or keeps its steps within its parent's.
-- Assumes nothing.
use Prim.Native.Nat.{ℕ, ◌+◌, ◌<◌, ◌≤◌}
use mathlib.Core.Path.{◌≡◌, sym}
use mathlib.Core.Logic.{◌⊎◌, inl, inr, ◌≢◌}
use native.Mathlib.Omega.{arith}
use lib.Dec.{eqb}
use borrow.Author.Tests.{eqb-true, eqb-false, lt-leb, le-leb, eq-eqb, ne_eqb}
use Rattle.list_laws.proofs.Tests.{Test, passes, fails, test, below_or}
use Rattle.check_subtrees.specs.Strays.{stray_step_of}

module _ (par step below : ℕ → ℕ) (c : ℕ) where
  -- ---- the cases as the code tells them apart

  pub stray-root : par c ≡ 0 → 0 ≡ stray_step_of par step below c
  unfolding stray_step_of
  stray-root e = rw (eq-eqb (par c) 0 e, stray_step_of)

  pub stray-late : par c ≢ 0 → step (par c) < step c → step (par c) ≡ stray_step_of par step below c
  unfolding stray_step_of
  stray-late z h = rw (ne_eqb (par c) 0 z, lt-leb (step c) (step (par c)) h, stray_step_of)

  pub stray-early : par c ≢ 0 → step c ≤ step (par c) → step c + below (par c) < step (par c) + below c → step (par c) ≡ stray_step_of par step below c
  unfolding stray_step_of
  stray-early z h k = rw (ne_eqb (par c) 0 z, le-leb (step c) (step (par c)) h, lt-leb (step (par c) + below c) (step c + below (par c)) k, stray_step_of)

  pub stray-none : par c ≢ 0 → step c ≤ step (par c) → step (par c) + below c ≤ step c + below (par c) → 0 ≡ stray_step_of par step below c
  unfolding stray_step_of
  stray-none z h k = rw (ne_eqb (par c) 0 z, le-leb (step c) (step (par c)) h, le-leb (step (par c) + below c) (step c + below (par c)) k, stray_step_of)

  -- ---- what it says

  -- the steps that c's subtree should take are within its parent's
  abbrev pub Fits : Type 0
  Fits = (step c ≤ step (par c)) × (step (par c) + below c ≤ step c + below (par c))

  pub data Judged : Type 0 where
    within : stray_step_of par step below c ≡ 0 → (0 < par c → Fits) → Judged
    strays : stray_step_of par step below c ≡ step (par c) → 0 < par c → (Fits → ⊥) → Judged

  pub judged : Judged
  judged = go (test (eqb (par c) 0)) (below_or (step (par c)) (step c)) (below_or (step c + below (par c)) (step (par c) + below c))
    where
      go : Test (eqb (par c) 0) → (step (par c) < step c) ⊎ (step c ≤ step (par c))
          → (step c + below (par c) < step (par c) + below c) ⊎ (step (par c) + below c ≤ step c + below (par c)) → Judged
      go (passes e) a b = let z = eqb-true (par c) 0 e in within (sym (stray-root z)) (λ l. absurd (omega arith))
      go (fails e) (inl a) b = let z : par c ≢ 0 = eqb-false (par c) 0 e in strays (sym (stray-late z a)) (omega arith) (λ f. omega (arith, f.0))
      go (fails e) (inr a) (inl b) =
          let z : par c ≢ 0 = eqb-false (par c) 0 e in strays (sym (stray-early z a b)) (omega arith) (λ f. omega (arith, f.1))
      go (fails e) (inr a) (inr b) = within (sym (stray-none (eqb-false (par c) 0 e) a b)) (λ l. (a, b))
