-- Proves that the stack list, which holds the columns bottom first, agrees with the updates held, top first: popping lowers the count, and pushing
-- stores behind the last.
-- Assumes nothing.
use Prim.Native.Nat.{ℕ, zero, suc, ◌+◌, ◌-◌, ◌<◌, ◌≤◌}
use mathlib.Core.Path.{◌≡◌, refl, ap}
use mathlib.Core.List.Memᴰ
use mathlib.Core.List.{List, [], ◌∷◌}
use mathlib.Core.Logic.{◌⊎◌, inl, inr}
use native.Mathlib.Omega.{arith}
use native.Mathlib.Numerals.{add-one}
use lib.ListN.{length, get_or, set, take, drop}
use lib.Seq.{get_or-set_same, get_or-set_other}
use Rattle.papers.specs.Lists.{◌∈◌}
use Rattle.run_updates.specs.Kept.{held_in_order}

module _ (stack : List ℕ) where
  pub held_none : held_in_order 0 stack ≡ []
  unfolding held_in_order
  held_none = refl

  pub held-length : (k : ℕ) → length (held_in_order k stack) ≡ k
  unfolding held_in_order
  held-length zero = refl
  held-length (suc k) = ap suc (held-length k)

  -- the top column
  pub held-top : (k : ℕ) → 0 < k → held_in_order k stack ≡ get_or stack (k - 1) 0 ∷ held_in_order (k - 1) stack
  unfolding held_in_order
  held-top zero h = absurd (omega arith)
  held-top (suc k) h = let e : suc k - 1 ≡ k = omega arith in rw e

  -- the columns that stay after p pops
  pub held-drop : (p k : ℕ) → p ≤ k → drop p (held_in_order k stack) ≡ held_in_order (k - p) stack
  unfolding held_in_order
  held-drop zero k h = let e : k - 0 ≡ k = omega arith in rw e
  held-drop (suc p) zero h = absurd (omega arith)
  held-drop (suc p) (suc k) h = let e : suc k - suc p ≡ k - p = omega arith in rw e (held-drop p k (omega arith))

  -- the popped columns between `end` and `top`
  pub popped-next : (end top : ℕ) → end < top
      → take (top - end) (held_in_order top stack) ≡ get_or stack (top - 1) 0 ∷ take (top - 1 - end) (held_in_order (top - 1) stack)
  popped-next end top h =
      let e : top - end ≡ suc (top - 1 - end) = omega arith in
      rw (held-top top (omega arith), e)

  pub popped-none : (end top : ℕ) → top ≤ end → take (top - end) (held_in_order top stack) ≡ []
  popped-none end top h = let e : top - end ≡ 0 = omega arith in rw e

  -- each held column is one of the first k of the list
  pub held-each : (P : ℕ → Type 0) (k : ℕ) → ((i : ℕ) → i < k → P (get_or stack i 0)) → (c : ℕ) → c ∈ held_in_order k stack → P c
  unfolding held_in_order
  held-each P zero h c m = absurd (Memᴰ.not-nil m)
  held-each P (suc k) h c m = go (Memᴰ.cases_cons m) (λ t. held-each P k (λ i l. h i (omega arith)) c t)
    where
      go : (c ≡ get_or stack k 0) ⊎ (c ∈ held_in_order k stack) → (c ∈ held_in_order k stack → P c) → P c
      go (inl e) ih = rw e (h k (omega arith))
      go (inr t) ih = ih t

  -- a store behind them changes none of them
  pub held_kept : (k i c : ℕ) → k ≤ i → held_in_order k (set stack i c) ≡ held_in_order k stack
  unfolding held_in_order
  held_kept zero i c h = refl
  held_kept (suc k) i c h = rw (get_or-set_other stack i k c 0 (λ q. omega arith), held_kept k i c (omega arith))

  -- a column stored behind them is then on top
  pub held-push : (k c : ℕ) → k < length stack → held_in_order (k + 1) (set stack k c) ≡ c ∷ held_in_order k stack
  unfolding held_in_order
  held-push k c h = rw (add-one, get_or-set_same stack k c 0 h, held_kept k k c (omega arith))
