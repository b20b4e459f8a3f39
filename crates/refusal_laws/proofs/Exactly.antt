-- Proves that an outcome is exactly what the conditions say, if tests agree with conditions: the first test that refuses decides it.
-- Assumes nothing.
use Prim.Native.Nat.{ℕ, zero, suc}
use mathlib.Core.Path.{◌≡◌, refl, sym, ap, ◌∙◌}
use mathlib.Core.Logic.{◌⊎◌, inl, inr}
use mathlib.Core.List.{List, ◌++◌}
use native.Mathlib.Omega.{arith}
use Rattle.papers.specs.declared.Answer.{Answer}
use Rattle.papers.specs.Refusals.{Verdict, passed, refused, Refusal, first, Answered, Unrefused, Outcome, outcome}
use Rattle.refusal_laws.specs.Exactly.{Exactly}
use Rattle.job_laws.proofs.Firsts.{refused-passed, one_answer, first-append-passed, first-append-refused, append-passed-iff}
use Rattle.job_laws.proofs.Outcomes.{outcome-early, outcome-late, outcome-done}
use Rattle.refusal_laws.proofs.Agreements.{Agree, AgreeEach, answered-iff, passed-iff, answered-append, append-agree}

-- two outcomes that a statement by conditions allows are equal: the answer, and all of each lent slice
pub outcomes-coincide : {C S : Type 0} {early late : List (Refusal C)} {call : C} {lent zero : S} {done x y : Outcome S}
    → Exactly early late call lent zero done x → Exactly early late call lent zero done y → x ≡ y
outcomes-coincide {early = early} {late = late} {call = call} {x = x} {y = y} p q = go x.answered.number refl
  where
    same : x.answered ≡ y.answered → x.lent ≡ y.lent → x ≡ y
    same a l i = record { answered = a i; lent = l i }

    -- early or late, both leave the same
    left : Answered early call x.answered ⊎ (Unrefused early call × Answered late call x.answered) → x.lent ≡ y.lent
    left (inl e) = p.kept x.answered e ∙ sym (q.kept x.answered e)
    left (inr (u, l)) = p.zeroed x.answered u l ∙ sym (q.zeroed x.answered u l)

    go : (m : ℕ) → x.answered.number ≡ m → x ≡ y
    go zero e = p.when-done e ∙ sym (q.when-done (q.done-iff.1 (p.done-iff.0 e)))
    go (suc m) e =
        let given = (p.refused-iff x.answered (omega arith)).0 refl in
        same (sym ((q.refused-iff x.answered (omega arith)).1 given)) (left ((answered-append early late call x.answered).0 given))

-- ---- the outcome

module _ {C S : Type 0} (early late : List (Refusal C)) (done : C → Outcome S) (zeroing : S → S) (call : C) (lent : S) where
  -- the outcome by the conditions; the late tests need agree only if the early ones pass, and a call that passes all is done
  pub outcome-exactly : AgreeEach early call → (first early call ≡ passed → AgreeEach late call)
      → (first (early ++ late) call ≡ passed → (done call).answered.number ≡ 0)
      → Exactly early late call lent (zeroing lent) (done call) (outcome early late done zeroing call lent)
  outcome-exactly agree agree-late finished = go (first early call) refl (first late call) refl
    where
      all : AgreeEach (early ++ late) call
      all = append-agree early late call agree agree-late

      given : Agree (first (early ++ late) call) (Answered (early ++ late) call)
      given = answered-iff (early ++ late) call all

      -- a refusal that decides, with what it leaves
      refusal : (b : Answer) (left : S) → first (early ++ late) call ≡ refused b
          → ((a : Answer) → Answered early call a → left ≡ lent)
          → ((a : Answer) → Unrefused early call → Answered late call a → left ≡ zeroing lent)
          → Exactly early late call lent (zeroing lent) (done call) (record { answered = b; lent = left })
      refusal b left q kept late-zero =
          let some = given.numbered b ((given.same b).0 q) in
          record {
            refused-iff = λ a z. (λ e. (given.same a).0 (rw (← e) q), λ r. one_answer q ((given.same a).1 r));
            done-iff = (λ e. absurd (omega arith), λ u. absurd (refused-passed q ((passed-iff (early ++ late) call all).1 u)));
            when-done = λ e. absurd (omega arith);
            kept = kept;
            zeroed = late-zero;
          }

      go : (v : Verdict) → first early call ≡ v → (w : Verdict) → first late call ≡ w
          → Exactly early late call lent (zeroing lent) (done call) (outcome early late done zeroing call lent)
      go (refused b) e w f =
          rw (outcome-early early late done zeroing call lent e)
          (refusal b lent (first-append-refused early late call e) (λ a k. refl)
          (λ a u k. absurd (refused-passed e ((passed-iff early call agree).1 u))))
      go passed e (refused b) f =
          rw (outcome-late early late done zeroing call lent e f)
          (refusal b (zeroing lent) (first-append-passed early late call e ∙ f)
          (λ a k. absurd (refused-passed (((answered-iff early call agree).same a).1 k) e))
          (λ a u k. refl))
      go passed e passed f =
          let p = (append-passed-iff early late call).1 (e, f) in
          let none = (passed-iff (early ++ late) call all).0 p in
          let z = finished p in
          rw (outcome-done early late done zeroing call lent e f)
          (record {
            refused-iff = λ a h. (
              λ x. absurd (omega (arith, ap (λ (b : Answer). b.number) x)),
              λ r. absurd (refused-passed ((given.same a).1 r) p),
            );
            done-iff = (λ x. none, λ u. z);
            when-done = λ x. refl;
            kept = λ a k. absurd (refused-passed (((answered-iff early call agree).same a).1 k) e);
            zeroed = λ a u k. absurd (refused-passed (((answered-iff late call (agree-late e)).same a).1 k) f);
          })
