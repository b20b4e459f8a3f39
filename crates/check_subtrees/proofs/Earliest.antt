-- Proves that the least of several steps, where 0 means none, is one of them, and that none of the others is less.
-- Assumes nothing.
use Prim.Native.Nat.{ℕ, zero, suc, ◌+◌, ◌<◌, ◌≤◌, min}
use mathlib.Core.Path.{◌≡◌, refl, ap, ◌∙◌}
use mathlib.Core.Logic.{◌⊎◌, inl, inr}
use native.Mathlib.Omega.{arith}
use native.Mathlib.Nat.{le-suc_iff}
use native.Mathlib.Numerals.{add-one}
use Rattle.list_laws.proofs.Tests.{below_or}
use Rattle.std.specs.Prelude.{Option, Some, None}
use Rattle.refusals.specs.Answers.{place_if_any}
use Rattle.check_subtrees.specs.Strays.{earlier, lesser_step, earliest}

-- the lesser of two steps as Options is the earlier of two numbers, where 0 is no step
lesser-earlier : (a b : ℕ) → lesser_step (place_if_any a) (place_if_any b) ≡ place_if_any (earlier a b)
unfolding earlier
lesser-earlier zero b = refl
lesser-earlier (suc a) zero = refl
lesser-earlier (suc a) (suc b) = go (below_or (suc a) (suc b))
  where
    go : (suc a < suc b) ⊎ (suc b ≤ suc a) → Some (min (suc a) (suc b)) ≡ place_if_any (min (suc a) (suc b))
    go (inl k) = let m : min (suc a) (suc b) ≡ suc a = omega arith in rw m refl
    go (inr k) = let m : min (suc a) (suc b) ≡ suc b = omega arith in rw m refl

-- first is the least of f 1 to f i, of n in all
pub record Earlier (f : ℕ → ℕ) (n : ℕ) (first : Option ℕ) (i : ℕ) : Type 0 where
  pub so_far : first ≡ place_if_any (earliest f i)
  pub seen : i ≤ n

pub earliest-none : (f : ℕ → ℕ) (n : ℕ) → Earlier f n None 0
unfolding earliest
earliest-none f n = record { so_far = refl; seen = omega arith }

pub earliest-next : (f : ℕ → ℕ) {n i : ℕ} {first x r : Option ℕ} → Earlier f n first i → i < n → x ≡ place_if_any (f (i + 1))
    → r ≡ lesser_step first x → Earlier f n r (i + 1)
unfolding earliest
earliest-next f {i = i} {x = x} inv h q e =
    let before = place_if_any (earliest f i) in
    let next : x ≡ place_if_any (f (suc i)) = rw add-one at q in
    record {
      so_far = rw add-one
          (e ∙ (ap (λ y. lesser_step y x) inv.so_far ∙ (ap (λ y. lesser_step before y) next ∙ lesser-earlier (earliest f i) (f (suc i)))));
      seen = omega arith;
    }

-- ---- what it is

-- either f has no step among 1 to n, or r is the least of those it has
pub data Earliest (f : ℕ → ℕ) (n r : ℕ) : Type 0 where
  none : r ≡ 0 → ((c : ℕ) → 1 ≤ c → c ≤ n → f c ≡ 0) → Earliest f n r
  found : 0 < r → (c : ℕ) → 1 ≤ c → c ≤ n → f c ≡ r → ((d : ℕ) → 1 ≤ d → d ≤ n → (f d ≡ 0) ⊎ (r ≤ f d)) → Earliest f n r

last-too : (P : ℕ → Type 0) (n : ℕ) → ((c : ℕ) → 1 ≤ c → c ≤ n → P c) → P (suc n) → (c : ℕ) → 1 ≤ c → c ≤ suc n → P c
last-too P n h last c l u = go (le-suc_iff.0 u)
  where
    go : (c ≤ n) ⊎ (c ≡ suc n) → P c
    go (inl v) = h c l v
    go (inr e) = rw e last

module _ (f : ℕ → ℕ) (n : ℕ) where
  -- takes one number more, b, which is a step or 0
  with-last : (a b : ℕ) → f (suc n) ≡ b → Earliest f n a → Earliest f (suc n) (earlier a b)
  unfolding earlier
  with-last zero zero e (none z h) = none refl (last-too (λ c. f c ≡ 0) n h e)
  with-last zero (suc b) e (none z h) =
      found (omega arith) (suc n) (omega arith) (omega arith) e (last-too (λ c. (f c ≡ 0) ⊎ (suc b ≤ f c)) n (λ c l u. inl (h c l u))
      (inr (omega arith)))
  with-last (suc a) b e (none z h) = absurd (omega arith)
  with-last zero b e (found p c l u q h) = absurd (omega arith)
  with-last (suc a) zero e (found p c l u q h) = found p c l (omega arith) q (last-too (λ c. (f c ≡ 0) ⊎ (suc a ≤ f c)) n h (inl e))
  with-last (suc a) (suc b) e (found p c l u q h) = go (below_or (suc a) (suc b))
    where
      low : (r : ℕ) → r ≤ suc a → (d : ℕ) → 1 ≤ d → d ≤ n → (f d ≡ 0) ⊎ (r ≤ f d)
      low r k d x y = weaken (h d x y)
        where
          weaken : (f d ≡ 0) ⊎ (suc a ≤ f d) → (f d ≡ 0) ⊎ (r ≤ f d)
          weaken (inl z) = inl z
          weaken (inr m) = inr (omega arith)

      go : (suc a < suc b) ⊎ (suc b ≤ suc a) → Earliest f (suc n) (min (suc a) (suc b))
      go (inl k) =
          let m : min (suc a) (suc b) ≡ suc a = omega arith in
          rw m (found p c l (omega arith) q (last-too (λ c. (f c ≡ 0) ⊎ (suc a ≤ f c)) n h (inr (omega arith))))
      go (inr k) =
          let m : min (suc a) (suc b) ≡ suc b = omega arith in
          rw m (found (omega arith) (suc n) (omega arith) (omega arith) e (last-too (λ c. (f c ≡ 0) ⊎ (suc b ≤ f c)) n (low (suc b) k)
          (inr (omega arith))))

pub earliest-is : (f : ℕ → ℕ) (n : ℕ) → Earliest f n (earliest f n)
unfolding earliest
earliest-is f zero = none refl (λ c l u. absurd (omega arith))
earliest-is f (suc n) = with-last f n (earliest f n) (f (suc n)) refl (earliest-is f n)
