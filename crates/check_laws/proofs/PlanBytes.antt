-- Proves that the tests of a plan's bytes (11 to 15) agree with their conditions: the first byte that differs from the key, then what
-- reading behind the key finds.
-- Assumes nothing.
use Prim.Native.Nat.{ℕ, ◌-◌, ◌<◌, ◌≤◌}
use mathlib.Core.Path.{◌≡◌, refl, sym, ◌∙◌}
use mathlib.Core.Logic.{◌↔◌, ◌⊎◌, inl, inr}
use mathlib.Core.Bool.{true, not}
use mathlib.Core.List.{List}
use native.Mathlib.Omega.{arith}
use lib.Dec.{eqb}
use lib.ListN.{length, get_or}
use borrow.Author.Tests.{le-leb, lt-leb}
use Rattle.papers.specs.declared.Answer.{Answer}
use Rattle.papers.specs.Refusals.{answer, passed, refused}
use Rattle.papers.specs.Numbers.{Read, got, bad, differs_at, Agrees}
use Rattle.papers.specs.Key.{key_of}
use Rattle.papers.specs.Plan.{Plan, plan_read, PlanFault, twelve, thirteen, fourteen, fifteen}
use Rattle.papers.specs.Check.{CheckCall, read_test, bad_plan, other_key}
use Rattle.list_laws.proofs.Tests.{below_or}
use Rattle.job_laws.proofs.Firsts.{refused-passed}
use Rattle.refusal_laws.proofs.Agreements.{Agree, agree-by}
use Rattle.refusal_laws.proofs.Tests.{differ-iff, agree_at}
use Rattle.check_laws.proofs.Readings.{plan-bad-iff}

-- ---- 11

module _ (key plan : List ℕ) (p : ℕ) where
  differs-within : p ≤ length plan → differs_at key plan p ≡ not (eqb (get_or key (p - 1) 0) (get_or plan (p - 1) 0))
  unfolding differs_at
  differs-within l = rw (le-leb p (length plan) l, differs_at)

  differs-ended : length plan < p → differs_at key plan p ≡ true
  unfolding differs_at
  differs-ended l = rw (lt-leb p (length plan) l, differs_at)

  differs-iff : (differs_at key plan p ≡ true) ↔ (¬ Agrees key plan p)
  differs-iff = go (below_or (length plan) p)
    where
      go : (length plan < p) ⊎ (p ≤ length plan) → (differs_at key plan p ≡ true) ↔ (¬ Agrees key plan p)
      go (inl l) = (λ e (u, q). omega arith, λ h. differs-ended l)
      go (inr l) =
          let i = differ-iff (get_or key (p - 1) 0) (get_or plan (p - 1) 0) in
          (λ e (u, q). i.0 (sym (differs-within l) ∙ e) q, λ h. differs-within l ∙ i.1 (λ q. h (l, q)))

-- the test of 11 agrees with its condition
pub begins-agree : (call : CheckCall) → Agree (other_key.test call) (other_key.gives call)
begins-agree call =
    let key = key_of call.job in
    agree_at (differs_at key call.plan) (length key) (λ p l u. differs-iff key call.plan p) (λ p. 11) (λ p. 0) (λ p l u h. omega arith)

-- ---- 12 to 15

no-count : {n : ℕ} {s : List ℕ} {from : ℕ} {a : Answer} → PlanFault n s from a → (a.count ≡ 0) × (0 < a.number)
no-count (twelve r x e) = (refl, omega arith)
no-count (thirteen r x e) = (refl, omega arith)
no-count (fourteen r x e o) = (refl, omega arith)
no-count (fifteen r l) = (refl, omega arith)

module _ (call : CheckCall) where
  read-bad-iff : (number place : ℕ) → (plan_read call.job call.plan ≡ bad number place) ↔ bad_plan.gives call (answer number place 0)
  unfolding plan_read
  read-bad-iff = plan-bad-iff call.job.n call.plan (length (key_of call.job))

  pub read-got : {plan : Plan} {at : ℕ} → plan_read call.job call.plan ≡ got plan at → read_test call ≡ passed
  unfolding read_test
  read-got e = rw (e, read_test)

  pub read-bad : {number place : ℕ} → plan_read call.job call.plan ≡ bad number place → read_test call ≡ refused (answer number place 0)
  unfolding read_test
  read-bad e = rw (e, read_test)

  -- 12 to 15 pass exactly when a plan is read
  pub read-iff : (read_test call ≡ passed) ↔ ((plan : Plan) × (at : ℕ) × (plan_read call.job call.plan ≡ got plan at))
  read-iff = (λ p. there p (plan_read call.job call.plan) refl, λ (plan, at, e). read-got e)
    where
      there : read_test call ≡ passed → (x : Read Plan) → plan_read call.job call.plan ≡ x
          → (plan : Plan) × (at : ℕ) × (plan_read call.job call.plan ≡ got plan at)
      there p (got plan at) e = (plan, at, e)
      there p (bad number place) e = absurd (refused-passed (read-bad e) p)

  -- the tests of 12 to 15 agree with their conditions
  pub read-agree : Agree (read_test call) (bad_plan.gives call)
  read-agree = agree-by _ _ gives (go (plan_read call.job call.plan) refl)
    where
      gives : (a : Answer) → bad_plan.gives call a → (read_test call ≡ refused a) × (0 < a.number)
      gives a b =
          let q : a ≡ answer a.number a.place 0 = λ i. record { number = a.number; place = a.place; count = (no-count b).0 i } in
          (rw q (read-bad ((read-bad-iff a.number a.place).1 (rw q at b))), (no-count b).1)

      go : (x : Read Plan) → plan_read call.job call.plan ≡ x → (read_test call ≡ passed) ⊎ ((a : Answer) × bad_plan.gives call a)
      go (got plan at) e = inl (read-got e)
      go (bad number place) e = inr (answer number place 0, (read-bad-iff number place).0 e)
