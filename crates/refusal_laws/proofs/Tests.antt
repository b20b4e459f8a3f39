-- Proves when one test agrees with its condition: a test that refuses if something holds, and one that refuses at the least place where
-- something holds.
-- Assumes nothing.
use Prim.Native.Nat.{ℕ, zero, suc, ◌<◌, ◌≤◌}
use mathlib.Core.Path.{◌≡◌, refl}
use mathlib.Core.Logic.{◌↔◌, ◌⊎◌, inl, inr, ◌≢◌}
use mathlib.Core.Bool.{Bool, true, false, not, ◌||◌}
use native.Mathlib.Omega.{arith}
use lib.Dec.{ltb, eqb}
use borrow.Author.Tests.{ltb-true, ltb-false, lt-ltb, eqb-true, eq-eqb, not-true}
use Rattle.papers.specs.declared.Answer.{Answer}
use Rattle.papers.specs.Lists.{least, Least}
use Rattle.papers.specs.Refusals.{answer, Verdict, passed, refused, refused_if, refused_at, fault_test}
use Rattle.list_laws.proofs.Tests.{Test, passes, fails, test, Compare, below, level, above, compare, true-false}
use Rattle.list_laws.proofs.Leasts.{least-zero-iff, least-found-iff}
use Rattle.job_laws.proofs.Firsts.{refused-passed, refused-if, passed-if}
use Rattle.job_laws.proofs.Faults.{faulty, faults-pass, faults-found}
use Rattle.refusal_laws.proofs.Agreements.{Agree, agree-by}

-- ---- comparisons

pub below-iff : (x y : ℕ) → (ltb x y ≡ true) ↔ (x < y)
below-iff x y = (ltb-true x y, lt-ltb x y)

-- a test fails exactly when what it tests does not hold
pub fails-iff : (b : Bool) {P : Type 0} → (b ≡ true) ↔ P → (b ≡ false) ↔ (¬ P)
fails-iff true i = (λ e. absurd (true-false refl e), λ h. absurd (h (i.0 refl)))
fails-iff false i = (λ e p. true-false (i.1 p) refl, λ h. refl)

pub unless-iff : (b : Bool) {P : Type 0} → (b ≡ false) ↔ P → (b ≡ true) ↔ (¬ P)
unless-iff true i = (λ e p. true-false refl (i.1 p), λ h. refl)
unless-iff false i = (λ e. absurd (true-false e refl), λ h. absurd (h (i.0 refl)))

pub not_iff : (b : Bool) {P : Type 0} → (b ≡ true) ↔ P → (not b ≡ true) ↔ (¬ P)
not_iff b i = let k = fails-iff b i in (λ e. k.0 (not-true b e), λ h. rw (k.1 h))

pub differ-iff : (x y : ℕ) → (not (eqb x y) ≡ true) ↔ (x ≢ y)
differ-iff x y = not_iff (eqb x y) (eqb-true x y, eq-eqb x y)

pub either-iff : (b c : Bool) {P Q : Type 0} → (b ≡ true) ↔ P → (c ≡ true) ↔ Q → ((b || c) ≡ true) ↔ (P ⊎ Q)
either-iff true c p q = (λ e. inl (p.0 refl), λ h. refl)
either-iff false c {P} {Q} p q = (λ e. inr (q.0 e), back)
  where
    back : P ⊎ Q → c ≡ true
    back (inl x) = absurd (true-false (p.1 x) refl)
    back (inr x) = q.1 x

-- ---- refused if something holds

-- a test that refuses if P holds agrees with P and its answer
pub agree-if : (b : Bool) (given : Answer) {P : Type 0} → 0 < given.number → (b ≡ true) ↔ P → Agree (refused_if b given) (λ a. P × (a ≡ given))
agree-if b given {P} some i = agree-by _ _ (λ a h. (rw h.1 (refused-if b given (i.1 h.0)), rw h.1 some)) (go (test b))
  where
    go : Test b → (refused_if b given ≡ passed) ⊎ ((a : Answer) × (P × (a ≡ given)))
    go (passes e) = inr (given, (i.0 e, refl))
    go (fails e) = inl (passed-if b given e)

-- a test that refuses if more is needed than given
pub agree-exceeds : (number needed given : ℕ) → 0 < number
    → Agree (refused_if (ltb given needed) (answer number 0 needed)) (λ a. (given < needed) × (a ≡ answer number 0 needed))
agree-exceeds number needed given some = agree-if (ltb given needed) (answer number 0 needed) some (below-iff given needed)

-- ---- refused at the least place

module _ (f : ℕ → Bool) (n : ℕ) {P : ℕ → Type 0} (holds : (k : ℕ) → 1 ≤ k → k ≤ n → (f k ≡ true) ↔ P k) where
  -- the test finds the least place where P holds
  pub found-iff : (p : ℕ) → (least f n ≡ suc p) ↔ Least P n (suc p)
  found-iff p =
      let i = least-found-iff f n p in (
        λ e. let (l, t, g) = i.0 e in
            ((omega arith, l), (holds (suc p) (omega arith) l).0 t, λ k a b x. true-false ((holds k a (omega arith)).1 x) (g k a (omega arith))),
        λ h. i.1 (
          h.0.1,
          (holds (suc p) (omega arith) h.0.1).1 h.1,
          λ k a b. none k a (omega (arith, h.0.1)) (λ x. h.2 k a (omega arith) x),
        ),
      )
    where
      none : (k : ℕ) → 1 ≤ k → k ≤ n → ¬ P k → f k ≡ false
      none k a b h = go (test (f k))
        where
          go : Test (f k) → f k ≡ false
          go (passes e) = absurd (h ((holds k a b).0 e))
          go (fails e) = e

  -- a verdict that names the least place agrees with P there
  pub agree-least : (v : Verdict) (given : ℕ → Answer) → ((p : ℕ) → 1 ≤ p → p ≤ n → P p → 0 < (given p).number) → (least f n ≡ 0 → v ≡ passed)
      → ((p : ℕ) → least f n ≡ suc p → v ≡ refused (given (suc p)))
      → Agree v (λ a. (p : ℕ) × Least P n p × (a ≡ given p))
  agree-least v given some pass refuse = agree-by v _ (λ a h. back a h.0 h.1 h.2) (go (least f n) refl)
    where
      go : (m : ℕ) → least f n ≡ m → (v ≡ passed) ⊎ ((a : Answer) × ((p : ℕ) × Least P n p × (a ≡ given p)))
      go zero e = inl (pass e)
      go (suc p) e = inr (given (suc p), (suc p, (found-iff p).0 e, refl))

      back : (a : Answer) (p : ℕ) → Least P n p → a ≡ given p → (v ≡ refused a) × (0 < a.number)
      back a zero l q = absurd (omega (arith, l.0.0))
      back a (suc p) l q = (rw q (refuse p ((found-iff p).1 l)), rw q (some (suc p) l.0.0 l.0.1 l.1))

  -- number and count may depend on the place
  pub agree_at : (number count : ℕ → ℕ) → ((p : ℕ) → 1 ≤ p → p ≤ n → P p → 0 < number p)
      → Agree (let p = least f n in refused_at (number p) p (count p)) (λ a. (p : ℕ) × Least P n p × (a ≡ answer (number p) p (count p)))
  unfolding refused_at
  agree_at number count some = agree-least _ (λ p. answer (number p) p (count p)) some (λ e. rw e) (λ p e. rw e)

  -- the test passes if P holds nowhere
  pub at-passed : (number count : ℕ) → refused_at number (least f n) count ≡ passed → (k : ℕ) → 1 ≤ k → k ≤ n → ¬ P k
  unfolding refused_at
  at-passed number count e k l u x = go (least f n) refl e
    where
      go : (m : ℕ) → least f n ≡ m → refused_at number m count ≡ passed → ⊥
      go zero z p = true-false ((holds k l u).1 x) ((least-zero-iff f n).0 z k l u)
      go (suc m) z p = refused-passed refl p

-- ---- refused with the fault of the least place that has one

-- the fault of place k, if no place before it has one: none, or m exactly when `Bad k m`
pub record FirstFaults (fault : ℕ → ℕ) (Bad : ℕ → ℕ → Type 0) : Type 0 where
  pub is : (k m : ℕ) → Bad k m → (fault k ≡ m) × (0 < m)
  pub some : (k : ℕ) → ((i : ℕ) → 1 ≤ i → i < k → fault i ≡ 0) → (fault k ≡ 0) ⊎ Bad k (fault k)

module _ {fault : ℕ → ℕ} {Bad : ℕ → ℕ → Type 0} (faults : FirstFaults fault Bad) (n : ℕ) where
  -- a fault is found at p + 1: it is that of the condition, and no place before has one
  first-fault : (p : ℕ) → least (faulty fault) n ≡ suc p
      → (suc p ≤ n) × Bad (suc p) (fault (suc p)) × ((i : ℕ) → 1 ≤ i → i < suc p → fault i ≡ 0)
  first-fault p e = (at.0, go (ltb-true 0 (fault (suc p)) at.1) (faults.some (suc p) before), before)
    where
      at : (suc p ≤ n) × (ltb 0 (fault (suc p)) ≡ true) × ((k : ℕ) → 1 ≤ k → k ≤ p → ltb 0 (fault k) ≡ false)
      at = (least-found-iff (faulty fault) n p).0 e

      before : (i : ℕ) → 1 ≤ i → i < suc p → fault i ≡ 0
      before i l h = omega (arith, ltb-false 0 (fault i) (at.2 i l (omega arith)))

      go : 0 < fault (suc p) → (fault (suc p) ≡ 0) ⊎ Bad (suc p) (fault (suc p)) → Bad (suc p) (fault (suc p))
      go h (inl z) = absurd (omega arith)
      go h (inr b) = b

  -- the test that finds the first place at fault agrees with the conditions of the faults
  pub agree-first-faults : (given : ℕ → ℕ → Answer) → ((m k : ℕ) → 0 < m → 0 < (given m k).number) → Agree (fault_test fault n given)
      (λ a. (k m : ℕ) × ((1 ≤ k) × (k ≤ n)) × Bad k m × ((i m : ℕ) → 1 ≤ i → i < k → ¬ Bad i m) × (a ≡ given m k))
  agree-first-faults given some =
      agree-by _ _ (λ a (k, m, r, b, none, q). rw q (is k m r b none (least (faulty fault) n) refl, some m k (faults.is k m b).1))
      (there (least (faulty fault) n) refl)
    where
      there : (p : ℕ) → least (faulty fault) n ≡ p → (fault_test fault n given ≡ passed)
          ⊎ ((a : Answer) × ((k m : ℕ) × ((1 ≤ k) × (k ≤ n)) × Bad k m × ((i m : ℕ) → 1 ≤ i → i < k → ¬ Bad i m) × (a ≡ given m k)))
      there zero e = inl (faults-pass fault n given e)
      there (suc p) e =
          let (l, b, before) = first-fault p e in
          inr (_, (suc p, fault (suc p), (omega arith, l), b, λ i m f h x. let j = faults.is i m x in omega (arith, before i f h), refl))

      is : (k m : ℕ) → (1 ≤ k) × (k ≤ n) → Bad k m → ((i m : ℕ) → 1 ≤ i → i < k → ¬ Bad i m) → (p : ℕ) → least (faulty fault) n ≡ p
          → fault_test fault n given ≡ refused (given m k)
      is k m r b none zero e =
          let (f, h) = faults.is k m b in
          absurd (omega (arith, ltb-false 0 (fault k) ((least-zero-iff (faulty fault) n).0 e k r.0 r.1)))
      is k m r b none (suc p) e = go (compare k (suc p))
        where
          found : (suc p ≤ n) × Bad (suc p) (fault (suc p)) × ((i : ℕ) → 1 ≤ i → i < suc p → fault i ≡ 0)
          found = first-fault p e

          go : Compare k (suc p) → fault_test fault n given ≡ refused (given m k)
          go (below h) = let (f, s) = faults.is k m b in absurd (omega (arith, found.2 k r.0 h))
          go (level h) = rw (← (faults.is k m b).0, h) (faults-found fault n given p e)
          go (above h) = absurd (none (suc p) (fault (suc p)) (omega arith) h found.1)

-- the fault of place k, whatever the places before it have: none, or m exactly when `Bad k m`
pub record Faults (fault : ℕ → ℕ) (Bad : ℕ → ℕ → Type 0) : Type 0 where
  pub is : (k m : ℕ) → Bad k m → (fault k ≡ m) × (0 < m)
  pub some : (k : ℕ) → (fault k ≡ 0) ⊎ Bad k (fault k)

pub agree-faults : {fault : ℕ → ℕ} {Bad : ℕ → ℕ → Type 0} → Faults fault Bad → (n : ℕ) (given : ℕ → ℕ → Answer)
    → ((m k : ℕ) → 0 < m → 0 < (given m k).number)
    → Agree (fault_test fault n given) (λ a. (k m : ℕ) × ((1 ≤ k) × (k ≤ n)) × Bad k m × ((i m : ℕ) → 1 ≤ i → i < k → ¬ Bad i m) × (a ≡ given m k))
agree-faults faults n = agree-first-faults (record { is = faults.is; some = λ k before. faults.some k }) n
