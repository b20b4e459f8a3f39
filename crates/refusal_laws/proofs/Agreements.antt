-- Proves that the first test that refuses gives exactly the answers of the first condition that gives any, if tests and conditions agree
-- one by one. A test need agree with its condition only if the tests before it pass.
-- Assumes nothing.
use Prim.Native.Nat.{◌<◌}
use mathlib.Core.Path.{◌≡◌, refl, sym, ◌∙◌}
use mathlib.Core.Logic.{◌↔◌, ◌⊎◌, inl, inr}
use mathlib.Core.List.{List, [], ◌∷◌, ◌++◌}
use Rattle.papers.specs.declared.Answer.{Answer}
use Rattle.papers.specs.Refusals.{Verdict, passed, refused, Refusal, of, first, Answered, Unrefused}
use Rattle.job_laws.proofs.Firsts.{refused-passed, one_answer, first_passes, first-refuses, first_of}

-- the verdict refuses with exactly the answers of the condition, and each of them has a number
pub record Agree (v : Verdict) (K : Answer → Type 0) : Type 0 where
  pub same : (a : Answer) → (v ≡ refused a) ↔ K a
  pub numbered : (a : Answer) → K a → 0 < a.number

-- a verdict that agrees with a condition passes exactly when the condition gives no answer
pub agree-passed-iff : (v : Verdict) (K : Answer → Type 0) → Agree v K → (v ≡ passed) ↔ ((a : Answer) → ¬ K a)
agree-passed-iff v K h = (λ p a k. refused-passed ((h.same a).1 k) p, go v refl)
  where
    go : (w : Verdict) → v ≡ w → ((a : Answer) → ¬ K a) → v ≡ passed
    go passed q f = q
    go (refused a) q f = absurd (f a ((h.same a).0 q))

-- agreement with a condition is agreement with any equivalent one
pub agree_same : (v : Verdict) {K L : Answer → Type 0} → Agree v K → ((a : Answer) → K a ↔ L a) → Agree v L
agree_same v h i =
    record { same = λ a. (λ r. (i a).0 ((h.same a).0 r), λ x. (h.same a).1 ((i a).1 x)); numbered = λ a x. h.numbered a ((i a).1 x) }

-- a verdict agrees with a condition if it refuses with each answer of it, and passes if there is none
pub agree-by : (v : Verdict) (K : Answer → Type 0) → ((a : Answer) → K a → (v ≡ refused a) × (0 < a.number))
    → (v ≡ passed) ⊎ ((a : Answer) × K a)
    → Agree v K
agree-by v K gives d = record { same = λ a. (λ r. there a r d, λ k. (gives a k).0); numbered = λ a k. (gives a k).1 }
  where
    there : (a : Answer) → v ≡ refused a → (v ≡ passed) ⊎ ((a : Answer) × K a) → K a
    there a r (inl p) = absurd (refused-passed r p)
    there a r (inr h) = rw (one_answer r (gives h.0 h.1).0) h.1

-- each test agrees with its condition, if the tests before it pass
abbrev pub AgreeEach : {C : Type 0} → List (Refusal C) → C → Type 0
AgreeEach [] call = Unit {0}
AgreeEach (r ∷ rs) call = Agree (r.test call) (r.gives call) × (r.test call ≡ passed → AgreeEach rs call)

infixr 5 ◌▸◌
-- one test agrees, and those behind it do if it passes
abbrev pub ◌▸◌ : {A B P : Type 0} → A → (P → B) → A × (P → B)
a ▸ f = (a, f)

module _ {C : Type 0} where
  -- the first test that refuses gives the answers of the first condition that gives any
  pub answered-iff : (rs : List (Refusal C)) (call : C) → AgreeEach rs call → Agree (first rs call) (Answered rs call)
  unfolding first
  answered-iff [] call h = record { same = λ a. (λ r. refused-passed r refl, λ x. absurd x); numbered = λ a x. absurd x }
  answered-iff (r ∷ rs) call h = go (r.test call) refl (λ q. answered-iff rs call (h.1 q))
    where
      one : Agree (r.test call) (r.gives call)
      one = h.0

      go : (v : Verdict) → r.test call ≡ v → (r.test call ≡ passed → Agree (first rs call) (Answered rs call))
          → Agree (first (r ∷ rs) call) (Answered (r ∷ rs) call)
      go passed q ih = record { same = λ a. (λ e. inr (none, (behind.same a).0 (sym skipped ∙ e)), back a); numbered = numbered }
        where
          behind : Agree (first rs call) (Answered rs call)
          behind = ih q

          skipped : first (r ∷ rs) call ≡ first rs call
          skipped = first_passes r rs call q

          none : (b : Answer) → ¬ r.gives call b
          none = (agree-passed-iff (r.test call) (r.gives call) one).0 q

          back : (a : Answer) → Answered (r ∷ rs) call a → first (r ∷ rs) call ≡ refused a
          back a (inl k) = absurd (none a k)
          back a (inr (n, k)) = skipped ∙ (behind.same a).1 k

          numbered : (a : Answer) → Answered (r ∷ rs) call a → 0 < a.number
          numbered a (inl k) = absurd (none a k)
          numbered a (inr (n, k)) = behind.numbered a k
      go (refused b) q ih =
          record { same = λ a. (λ e. inl ((one.same a).0 (q ∙ sym (first-refuses r rs call q) ∙ e)), back a); numbered = numbered }
        where
          back : (a : Answer) → Answered (r ∷ rs) call a → first (r ∷ rs) call ≡ refused a
          back a (inl k) = first-refuses r rs call ((one.same a).1 k)
          back a (inr (n, k)) = absurd (n b ((one.same b).0 q))

          numbered : (a : Answer) → Answered (r ∷ rs) call a → 0 < a.number
          numbered a (inl k) = one.numbered a k
          numbered a (inr (n, k)) = absurd (n b ((one.same b).0 q))

  -- nothing is answered exactly when no condition gives an answer
  pub no-answer-iff : (rs : List (Refusal C)) (call : C) → ((a : Answer) → ¬ Answered rs call a) ↔ Unrefused rs call
  no-answer-iff [] call = (λ h. tt, λ h a x. x)
  no-answer-iff (r ∷ rs) call = go (no-answer-iff rs call)
    where
      go : ((a : Answer) → ¬ Answered rs call a) ↔ Unrefused rs call → ((a : Answer) → ¬ Answered (r ∷ rs) call a) ↔ Unrefused (r ∷ rs) call
      go ih = (λ h. (λ b k. h b (inl k), ih.0 (λ a x. h a (inr (λ b k. h b (inl k), x)))), back)
        where
          back : Unrefused (r ∷ rs) call → (a : Answer) → ¬ Answered (r ∷ rs) call a
          back u a (inl k) = u.0 a k
          back u a (inr x) = ih.1 u.1 a x.1

  -- nothing is refused exactly when no condition gives an answer
  pub passed-iff : (rs : List (Refusal C)) (call : C) → AgreeEach rs call → (first rs call ≡ passed) ↔ Unrefused rs call
  passed-iff rs call h =
      let i = agree-passed-iff (first rs call) (Answered rs call) (answered-iff rs call h) in
      let j = no-answer-iff rs call in
      (λ p. j.0 (i.0 p), λ u. i.1 (j.1 u))

  -- of two lists of refusals, one behind the other, the second answers only if the first gives nothing
  pub answered-append : (rs us : List (Refusal C)) (call : C) (a : Answer)
      → Answered (rs ++ us) call a ↔ (Answered rs call a ⊎ (Unrefused rs call × Answered us call a))
  answered-append [] us call a = (λ x. inr (tt, x), back)
    where
      back : ⊥ ⊎ (Unit {0} × Answered us call a) → Answered us call a
      back (inl x) = absurd x
      back (inr x) = x.1
  answered-append (r ∷ rs) us call a = go (answered-append rs us call a)
    where
      Behind : Type 0
      Behind = Answered rs call a ⊎ (Unrefused rs call × Answered us call a)

      Whole : Type 0
      Whole = Answered (r ∷ rs) call a ⊎ (Unrefused (r ∷ rs) call × Answered us call a)

      there : ((b : Answer) → ¬ r.gives call b) → Behind → Whole
      there n (inl x) = inl (inr (n, x))
      there n (inr (u, x)) = inr ((n, u), x)

      go : Answered (rs ++ us) call a ↔ Behind → Answered (r ∷ (rs ++ us)) call a ↔ Whole
      go ih = (from, into)
        where
          from : Answered (r ∷ (rs ++ us)) call a → Whole
          from (inl k) = inl (inl k)
          from (inr (n, x)) = there n (ih.0 x)

          into : Whole → Answered (r ∷ (rs ++ us)) call a
          into (inl (inl k)) = inl k
          into (inl (inr (n, x))) = inr (n, ih.1 (inl x))
          into (inr (u, x)) = inr (u.0, ih.1 (inr (u.1, x)))

  pub unrefused-append : (rs us : List (Refusal C)) (call : C) → Unrefused (rs ++ us) call ↔ (Unrefused rs call × Unrefused us call)
  unrefused-append [] us call = (λ u. (tt, u), λ u. u.1)
  unrefused-append (r ∷ rs) us call =
      let ih = unrefused-append rs us call in
      (λ u. let (p, q) = ih.0 u.1 in ((u.0, p), q), λ (u, w). (u.0, ih.1 (u.1, w)))

  -- ---- lists of refusals put together

  -- one list behind the other; the second need agree only if the first passes
  pub append-agree : (rs us : List (Refusal C)) (call : C) → AgreeEach rs call → (first rs call ≡ passed → AgreeEach us call)
      → AgreeEach (rs ++ us) call
  unfolding first
  append-agree [] us call h g = g refl
  append-agree (r ∷ rs) us call h g = (h.0, λ p. append-agree rs us call (h.1 p) (λ q. g (first_passes r rs call p ∙ q)))

module _ {C D : Type 0} (part : C → D) where
  -- refusals of a part of the call
  pub part-agree : (rs : List (Refusal D)) (call : C) → AgreeEach rs (part call) → AgreeEach (of part rs) call
  part-agree [] call h = tt
  part-agree (r ∷ rs) call h = (h.0, λ p. part-agree rs call (h.1 p))

  -- refusals of a part of the call, then others, which need agree only if those pass
  pub agree-behind : (rs : List (Refusal D)) (us : List (Refusal C)) (call : C) → AgreeEach rs (part call)
      → (first rs (part call) ≡ passed → AgreeEach us call)
      → AgreeEach (of part rs ++ us) call
  agree-behind rs us call h g = append-agree (of part rs) us call (part-agree rs call h) (λ p. g (sym (first_of part rs call) ∙ p))
