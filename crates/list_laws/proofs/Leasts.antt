-- Proves what `least f n` is: 0 exactly when no place of 1 to n passes f; p + 1 exactly when p + 1 is one of these places, passes f, and no
-- place before it does. It keeps the first place that it meets.
-- Assumes nothing.
use Prim.Native.Nat.{ℕ, zero, suc, ◌≤◌}
use mathlib.Core.Path.{◌≡◌, refl, sym, ◌∙◌}
use mathlib.Core.Logic.{◌⊎◌, inl, inr, ◌↔◌}
use mathlib.Core.Bool.{Bool, true, false}
use native.Mathlib.Omega.{arith}
use native.Mathlib.Nat.{le-suc_iff}
use Rattle.papers.specs.Lists.{least}
use Rattle.list_laws.proofs.Tests.{Test, passes, fails, test}

module _ (f : ℕ → Bool) where
  -- one more place: if no place up to n passes f, the next decides; if one is found, it stays
  pub least-none : (n : ℕ) → least f n ≡ 0 → f (suc n) ≡ false → least f (suc n) ≡ 0
  unfolding least
  least-none n z e = rw (z, e, least)

  least-next : (n : ℕ) → least f n ≡ 0 → f (suc n) ≡ true → least f (suc n) ≡ suc n
  unfolding least
  least-next n z e = rw (z, e, least)

  least_kept : (n p : ℕ) → least f n ≡ suc p → least f (suc n) ≡ suc p
  unfolding least
  least_kept n p e = rw (e, least)

  -- the first place that passes f is the least of any longer range
  pub least-here : (n m : ℕ) → least f n ≡ 0 → f (suc n) ≡ true → suc n ≤ m → least f m ≡ suc n
  least-here n zero z e l = absurd (omega arith)
  least-here n (suc m) z e l = go (le-suc_iff.0 l) (λ k. least-here n m z e k)
    where
      go : (suc n ≤ m) ⊎ (suc n ≡ suc m) → (suc n ≤ m → least f m ≡ suc n) → least f (suc m) ≡ suc n
      go (inl k) ih = least_kept m n (ih k)
      go (inr k) ih = let q : n ≡ m = omega arith in rw (← q) (least-next n z e)

  -- `least f n`, with what its value says
  data Found (n : ℕ) : Type 0 where
    nowhere : least f n ≡ 0 → ((k : ℕ) → 1 ≤ k → k ≤ n → f k ≡ false) → Found n
    at : (p : ℕ) → least f n ≡ suc p → suc p ≤ n → f (suc p) ≡ true → ((k : ℕ) → 1 ≤ k → k ≤ p → f k ≡ false) → Found n

  found : (n : ℕ) → Found n
  unfolding least
  found zero = nowhere refl (λ k a b. absurd (omega arith))
  found (suc n) = go (found n) (test (f (suc n)))
    where
      one_more : ((k : ℕ) → 1 ≤ k → k ≤ n → f k ≡ false) → f (suc n) ≡ false → (k : ℕ) → 1 ≤ k → k ≤ suc n → f k ≡ false
      one_more h e k a b = last (le-suc_iff.0 b)
        where
          last : (k ≤ n) ⊎ (k ≡ suc n) → f k ≡ false
          last (inl l) = h k a l
          last (inr q) = rw q e

      go : Found n → Test (f (suc n)) → Found (suc n)
      go (nowhere z h) (passes e) = at n (least-next n z e) (omega arith) e h
      go (nowhere z h) (fails e) = nowhere (least-none n z e) (one_more h e)
      go (at p q l e h) t = at p (least_kept n p q) (omega arith) e h

  -- it is 0 exactly when no place of 1 to n passes f
  pub least-zero-iff : (n : ℕ) → (least f n ≡ 0) ↔ ((k : ℕ) → 1 ≤ k → k ≤ n → f k ≡ false)
  least-zero-iff n = (λ z. there z (found n), λ h. back h (found n))
    where
      there : least f n ≡ 0 → Found n → (k : ℕ) → 1 ≤ k → k ≤ n → f k ≡ false
      there z (nowhere q h) = h
      there z (at p q l e h) = absurd (omega arith)

      back : ((k : ℕ) → 1 ≤ k → k ≤ n → f k ≡ false) → Found n → least f n ≡ 0
      back h (nowhere q g) = q
      back h (at p q l e g) = absurd (let z : ◌≡◌ {A = ℕ} 0 1 = cc (h (suc p) (omega arith) l) in omega arith)

  -- it is p + 1 exactly when p + 1 is a place of 1 to n, passes f, and no place before it does
  pub least-found-iff : (n p : ℕ) → (least f n ≡ suc p) ↔ ((suc p ≤ n) × (f (suc p) ≡ true) × ((k : ℕ) → 1 ≤ k → k ≤ p → f k ≡ false))
  least-found-iff n p = (λ q. there q (found n), λ h. least-here p n ((least-zero-iff p).1 h.2) h.1 h.0)
    where
      there : least f n ≡ suc p → Found n → (suc p ≤ n) × (f (suc p) ≡ true) × ((k : ℕ) → 1 ≤ k → k ≤ p → f k ≡ false)
      there q (nowhere z h) = absurd (omega arith)
      there q (at r s l e h) = let d : r ≡ p = omega arith in rw (← d) (l, e, h)

-- two tests that agree find the same least place
pub least-same : (f g : ℕ → Bool) (n : ℕ) → ((k : ℕ) → 1 ≤ k → k ≤ n → f k ≡ g k) → least f n ≡ least g n
least-same f g n h = go (least g n) refl
  where
    go : (m : ℕ) → least g n ≡ m → least f n ≡ least g n
    go zero e = (least-zero-iff f n).1 (λ k a b. h k a b ∙ (least-zero-iff g n).0 e k a b) ∙ sym e
    go (suc p) e =
        let (l, t, u) = (least-found-iff g n p).0 e in
        (least-found-iff f n p).1 (l, h (suc p) (omega arith) l ∙ t, λ k a b. h k a (omega arith) ∙ u k a b) ∙ sym e
