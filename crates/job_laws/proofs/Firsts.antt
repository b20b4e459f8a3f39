-- Proves facts of the first test that refuses. Earlier tests that pass can be left out, tests behind one that refuses do not matter, and
-- what holds of each test's verdict holds of the first refusal.
-- Assumes nothing.
use Prim.Native.Nat.{ℕ, ◌<◌, ◌≤◌}
use mathlib.Core.Path.{◌≡◌, refl, sym, ap, ◌∙◌}
use mathlib.Core.Logic.{◌↔◌, ◌≢◌}
use mathlib.Core.Bool.{Bool, true, false}
use mathlib.Core.List.{List, [], ◌∷◌, ◌++◌}
use native.Mathlib.Omega.{arith}
use lib.Dec.{ltb}
use borrow.Author.Tests.{ltb-false, lt-ltb, le-ltb}
use Rattle.papers.specs.declared.Answer.{Answer}
use Rattle.papers.specs.Refusals.{answer, Verdict, passed, refused, answer_of, refused_if, Refusal, of, first}

pub refused-passed : {v : Verdict} {a : Answer} → v ≡ refused a → v ≡ passed → ⊥
refused-passed r p = let z : ◌≡◌ {A = ℕ} 0 1 = cc in omega arith

-- a verdict refuses with one answer only
pub one_answer : {v : Verdict} {a b : Answer} → v ≡ refused a → v ≡ refused b → a ≡ b
unfolding answer_of
one_answer p q = ap answer_of (sym p ∙ q)

infixr 5 ◌&◌
-- what is proved of one refusal, and of those behind it
abbrev pub ◌&◌ : {A B : Type 0} → A → B → A × B
a & b = (a, b)

module _ {C : Type 0} where
  -- without refusals nothing is refused
  pub first-none : (c : C) → first [] c ≡ passed
  unfolding first
  first-none c = refl

  pub first_passes : (r : Refusal C) (rs : List (Refusal C)) (c : C) → r.test c ≡ passed → first (r ∷ rs) c ≡ first rs c
  unfolding first
  first_passes r rs c e = rw (e, first)

  pub first-refuses : (r : Refusal C) (rs : List (Refusal C)) (c : C) {a : Answer} → r.test c ≡ refused a → first (r ∷ rs) c ≡ refused a
  unfolding first
  first-refuses r rs c e = rw (e, first)

  one-more-iff : (r : Refusal C) (rs : List (Refusal C)) (c : C)
      → (first (r ∷ rs) c ≡ passed) ↔ ((r.test c ≡ passed) × (first rs c ≡ passed))
  one-more-iff r rs c = (λ e. there e (r.test c) refl, λ h. first_passes r rs c h.0 ∙ h.1)
    where
      there : first (r ∷ rs) c ≡ passed → (v : Verdict) → r.test c ≡ v → (r.test c ≡ passed) × (first rs c ≡ passed)
      there e passed q = (q, sym (first_passes r rs c q) ∙ e)
      there e (refused a) q = absurd (refused-passed (first-refuses r rs c q) e)

  -- a property of each test's verdict; `◌&◌` puts the proofs together
  abbrev pub Each : (Verdict → Type 0) → List (Refusal C) → C → Type 0
  Each P [] c = Unit {0}
  Each P (r ∷ rs) c = P (r.test c) × Each P rs c

  -- nothing is refused exactly when each test passes
  pub first-passed-iff : (rs : List (Refusal C)) (c : C) → (first rs c ≡ passed) ↔ Each (λ v. v ≡ passed) rs c
  unfolding first
  first-passed-iff [] c = (λ e. tt, λ h. refl)
  first-passed-iff (r ∷ rs) c =
      let i = one-more-iff r rs c in
      let k = first-passed-iff rs c in
      (λ e. ((i.0 e).0, k.0 (i.0 e).1), λ h. i.1 (h.0, k.1 h.1))

  -- if the earlier refusals are not given, those behind decide
  pub first-append-passed : (rs us : List (Refusal C)) (c : C) → first rs c ≡ passed → first (rs ++ us) c ≡ first us c
  first-append-passed [] us c e = refl
  first-append-passed (r ∷ rs) us c e =
      let h = (one-more-iff r rs c).0 e in first_passes r (rs ++ us) c h.0 ∙ first-append-passed rs us c h.1

  -- if an earlier one is given, it decides
  pub first-append-refused : (rs us : List (Refusal C)) (c : C) {a : Answer} → first rs c ≡ refused a → first (rs ++ us) c ≡ refused a
  unfolding first
  first-append-refused [] us c e = absurd (refused-passed e refl)
  first-append-refused (r ∷ rs) us c {a} e = go (r.test c) refl (λ q. first-append-refused rs us c q)
    where
      go : (v : Verdict) → r.test c ≡ v → (first rs c ≡ refused a → first (rs ++ us) c ≡ refused a) → first (r ∷ (rs ++ us)) c ≡ refused a
      go passed q ih = first_passes r (rs ++ us) c q ∙ ih (sym (first_passes r rs c q) ∙ e)
      go (refused b) q ih = first-refuses r (rs ++ us) c q ∙ sym (first-refuses r rs c q) ∙ e

  -- nothing is refused exactly when neither the earlier ones nor those behind refuse
  pub append-passed-iff : (rs us : List (Refusal C)) (c : C) → (first (rs ++ us) c ≡ passed) ↔ ((first rs c ≡ passed) × (first us c ≡ passed))
  append-passed-iff rs us c = (λ e. there e (first rs c) refl, λ (p, q). first-append-passed rs us c p ∙ q)
    where
      there : first (rs ++ us) c ≡ passed → (v : Verdict) → first rs c ≡ v → (first rs c ≡ passed) × (first us c ≡ passed)
      there e passed q = (q, sym (first-append-passed rs us c q) ∙ e)
      there e (refused a) q = absurd (refused-passed (first-append-refused rs us c q) e)

  -- refusals of a part of the call are given as those of the part
  pub first_of : {D : Type 0} (part : C → D) (rs : List (Refusal D)) (c : C) → first (of part rs) c ≡ first rs (part c)
  unfolding first
  first_of part [] c = refl
  first_of part (r ∷ rs) c = go (r.test (part c)) refl (first_of part rs c)
    where
      go : (v : Verdict) → r.test (part c) ≡ v → first (of part rs) c ≡ first rs (part c) → first (of part (r ∷ rs)) c ≡ first (r ∷ rs) (part c)
      go passed q ih = rw (q, first) ih
      go (refused a) q ih = rw (q, first)

  -- what holds of each verdict, and of passing, holds of the first refusal
  pub first-each : (P : Verdict → Type 0) (rs : List (Refusal C)) (c : C) → P passed → Each P rs c → P (first rs c)
  unfolding first
  first-each P [] c p h = p
  first-each P (r ∷ rs) c p h = go (r.test c) refl (first-each P rs c p h.1)
    where
      go : (v : Verdict) → r.test c ≡ v → P (first rs c) → P (first (r ∷ rs) c)
      go passed q ih = rw (first_passes r rs c q) ih
      go (refused a) q ih = rw (first-refuses r rs c q) (rw q at h.0)

-- ---- one test

-- the test refuses exactly when the condition holds
pub refused-if : (b : Bool) (a : Answer) → b ≡ true → refused_if b a ≡ refused a
unfolding refused_if
refused-if b a e = rw (e, refused_if)

pub passed-if : (b : Bool) (a : Answer) → b ≡ false → refused_if b a ≡ passed
unfolding refused_if
passed-if b a e = rw (e, refused_if)

pub passed-if-iff : (b : Bool) (a : Answer) → (refused_if b a ≡ passed) ↔ (b ≡ false)
passed-if-iff b a = (there b refl, passed-if b a)
  where
    there : (t : Bool) → b ≡ t → refused_if b a ≡ passed → b ≡ false
    there true e p = absurd (refused-passed (refused-if b a e) p)
    there false e p = e

-- a test that x is over a bound refuses exactly when it is
pub over-refuses : (bound x : ℕ) (a : Answer) → bound < x → refused_if (ltb bound x) a ≡ refused a
over-refuses bound x a h = refused-if (ltb bound x) a (lt-ltb bound x h)

pub over-passes-iff : (bound x : ℕ) (a : Answer) → (refused_if (ltb bound x) a ≡ passed) ↔ (x ≤ bound)
over-passes-iff bound x a =
    let i = passed-if-iff (ltb bound x) a in
    (λ e. ltb-false bound x (i.0 e), λ h. i.1 (le-ltb bound x h))

-- ---- the answer of a verdict

pub answer-refused : {v : Verdict} {a r : Answer} → v ≡ refused a → r ≡ a → r ≡ answer_of v
unfolding answer_of
answer-refused e q = rw e q

pub answer-passed : {v : Verdict} {r : Answer} → v ≡ passed → r ≡ answer 0 0 0 → r ≡ answer_of v
unfolding answer_of
answer-passed e q = rw e q

-- a verdict whose answer has a number other than 0 refuses with that answer
pub refused-by : {v : Verdict} {r : Answer} → r ≡ answer_of v → r.number ≢ 0 → v ≡ refused r
unfolding answer_of
refused-by {v} {r} e n = go v refl
  where
    go : (w : Verdict) → v ≡ w → v ≡ refused r
    go passed q = absurd (n (ap (λ (a : Answer). a.number) (e ∙ ap answer_of q)))
    go (refused a) q = let same : r ≡ a = e ∙ ap answer_of q in q ∙ rw same

-- a test whose answer has a number other than 0 refuses, so it decides before those behind it
pub first-answers : {C : Type 0} (r : Refusal C) (rs : List (Refusal C)) (c : C) → (answer_of (r.test c)).number ≢ 0
    → first (r ∷ rs) c ≡ r.test c
unfolding answer_of
first-answers r rs c h = go (r.test c) refl
  where
    go : (v : Verdict) → r.test c ≡ v → first (r ∷ rs) c ≡ r.test c
    go passed e = absurd (h (rw e))
    go (refused a) e = first-refuses r rs c e ∙ sym e

-- if all others pass, the last decides
pub first-last : {C : Type 0} (r : Refusal C) (c : C) → first (r ∷ []) c ≡ r.test c
unfolding first
first-last r c = go (r.test c) refl
  where
    go : (v : Verdict) → r.test c ≡ v → first (r ∷ []) c ≡ r.test c
    go passed e = first_passes r [] c e ∙ sym e
    go (refused a) e = first-refuses r [] c e ∙ sym e
