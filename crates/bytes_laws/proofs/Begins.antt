-- Proves that bytes pass 11 to 15 exactly when they are the bytes of a plan of the job. If each byte of the key agrees, the plan begins
-- with the key; behind it are the plan's numbers, up to the end.
-- Assumes nothing.
use Prim.Native.Nat.{ℕ, zero, suc, ◌-◌, ◌*◌, ◌^◌, ◌<◌, ◌≤◌}
use mathlib.Core.Path.{◌≡◌, refl, sym, ap, ◌∙◌}
use mathlib.Core.Logic.{◌↔◌}
use mathlib.Core.Bool.{false}
use mathlib.Core.List.{List, ◌++◌}
use native.Mathlib.Omega.{arith}
use lib.Dec.{leb}
use lib.ListN.{length, get_or, take, drop, take-append-drop, length-take}
use lib.Seq.{take_at, length-take-le, get_or-take, ext_get_or}
use borrow.Author.Tests.{leb-true, le-leb, eqb-true, eq-eqb, not-false}
use Rattle.papers.specs.Bounds.{max_groups}
use Rattle.papers.specs.Lists.{least}
use Rattle.papers.specs.Refusals.{passed, refused_at}
use Rattle.papers.specs.Numbers.{encode, got, differs_at, Agrees, Bytes}
use Rattle.papers.specs.Key.{key_of}
use Rattle.papers.specs.Plan.{Plan, plan_numbers, bytes_of_plan, plan_read, AreOf}
use Rattle.papers.specs.Check.{CheckCall, other_key}
use Rattle.list_laws.proofs.Tests.{Test, passes, fails, test, true-false}
use Rattle.list_laws.proofs.Leasts.{least-zero-iff}
use Rattle.bytes_laws.proofs.Fields.{spans-end, spans-to-end}
use Rattle.bytes_laws.proofs.Plans.{plan-back, plan-only}

-- byte p does not differ exactly when it is the key's byte
agrees-iff : (key plan : List ℕ) (p : ℕ) → (differs_at key plan p ≡ false) ↔ Agrees key plan p
unfolding differs_at
agrees-iff key plan p = (there (test (leb p (length plan))), back)
  where
    there : Test (leb p (length plan)) → differs_at key plan p ≡ false → Agrees key plan p
    there (passes l) e =
        (leb-true p (length plan) l, eqb-true (get_or key (p - 1) 0) (get_or plan (p - 1) 0) (not-false _ (rw (l, differs_at) at e)))
    there (fails l) e = absurd (true-false refl (rw (l, differs_at) at e))

    back : Agrees key plan p → differs_at key plan p ≡ false
    back a = rw (le-leb p (length plan) a.0, eq-eqb (get_or key (p - 1) 0) (get_or plan (p - 1) 0) a.1, differs_at)

-- every byte of the key agrees exactly when the plan begins with the key
begins-iff : (key plan : List ℕ) → ((p : ℕ) → 1 ≤ p → p ≤ length key → Agrees key plan p) ↔ (take (length key) plan ≡ key)
begins-iff key plan = (there, back)
  where
    there : ((p : ℕ) → 1 ≤ p → p ≤ length key → Agrees key plan p) → take (length key) plan ≡ key
    there h = ext_get_or 0 (take (length key) plan) key long byte
      where
        reach : (k : ℕ) → length key ≡ k → k ≤ length plan
        reach zero e = omega arith
        reach (suc k) e = (h (suc k) (omega arith) (omega arith)).0

        long : length (take (length key) plan) ≡ length key
        long = length-take-le (length key) plan (reach (length key) refl)

        byte : (i : ℕ) → i < length (take (length key) plan) → get_or (take (length key) plan) i 0 ≡ get_or key i 0
        byte i l =
            let u : i < length key = omega (arith, long) in
            let e : suc i - 1 ≡ i = omega arith in
            get_or-take (length key) plan i 0 u ∙ sym (rw e at (h (suc i) (omega arith) u).1)

    back : take (length key) plan ≡ key → (p : ℕ) → 1 ≤ p → p ≤ length key → Agrees key plan p
    back e p l u = (
      omega (arith, ap length e, length-take (length key) plan),
      ap (λ (k : List ℕ). get_or k (p - 1) 0) (sym e) ∙ get_or-take (length key) plan (p - 1) 0 (omega arith),
    )

at-passed-iff : (number p count : ℕ) → (refused_at number p count ≡ passed) ↔ (p ≡ 0)
unfolding refused_at
at-passed-iff number zero count = (λ e. refl, λ e. refl)
at-passed-iff number (suc p) count = (λ e. absurd (let z : ◌≡◌ {A = ℕ} 0 1 = cc in omega arith), λ e. absurd (omega arith))

-- 11 passes exactly when the plan begins with the job's key
pub key-passed-iff : (call : CheckCall) → (other_key.test call ≡ passed) ↔ (take (length (key_of call.job)) call.plan ≡ key_of call.job)
key-passed-iff call =
    let key = key_of call.job in
    let none = at-passed-iff 11 (least (differs_at key call.plan) (length key)) 0 in
    let each = least-zero-iff (differs_at key call.plan) (length key) in
    let begins = begins-iff key call.plan in (
      λ e. begins.0 (λ p l u. (agrees-iff key call.plan p).0 (each.0 (none.0 e) p l u)),
      λ e. none.1 (each.1 (λ p l u. (agrees-iff key call.plan p).1 (begins.1 e p l u))),
    )

-- the bytes of a plan pass 11 and are read as that plan, up to their end
pub plan-bytes-read : (call : CheckCall) (plan : Plan) → call.job.n < 2 ^ (7 * max_groups) → AreOf call.job call.plan plan
    → (other_key.test call ≡ passed) × (plan_read call.job call.plan ≡ got plan (length call.plan))
unfolding plan_read bytes_of_plan
plan-bytes-read call plan fits (fit, whole) =
    let key = key_of call.job in
    let own = encode (plan_numbers plan) in (
      (key-passed-iff call).1 (ap (take (length key)) whole ∙ take_at key own (length key) refl),
      plan-back call.job.n fits call.plan plan (length key) fit (spans-end call.plan key own whole),
    )

-- bytes pass 11 and are read as a plan exactly when they are the bytes of that plan
pub plan-bytes-iff : (call : CheckCall) (plan : Plan) (at : ℕ) → call.job.n < 2 ^ (7 * max_groups) → Bytes call.plan
    → ((other_key.test call ≡ passed) × (plan_read call.job call.plan ≡ got plan at))
    ↔ (AreOf call.job call.plan plan × (at ≡ length call.plan))
unfolding plan_read bytes_of_plan
plan-bytes-iff call plan at fits bytes = (
  λ (begins, read).
      let key = key_of call.job in
      let own = encode (plan_numbers plan) in
      let (e, fit, a) = plan-only call.job.n call.plan bytes plan (length key) at read in
      let beginning = ap (λ (l : List ℕ). l ++ drop (length key) call.plan) ((key-passed-iff call).0 begins) in
      let rest = ap (λ (l : List ℕ). key ++ l) (spans-to-end own a (omega arith)) in
      ((fit, sym (take-append-drop (length key) call.plan) ∙ beginning ∙ rest), e),
  λ (are-of, e). let (begins, read) = plan-bytes-read call plan fits are-of in (begins, read ∙ ap (got plan) (sym e)),
)
