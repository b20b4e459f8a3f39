-- Proves how verdicts of tests combine, one test after the other, and which answers they give.
-- Assumes nothing.
use Prim.Native.Nat.{ℕ, zero, suc}
use mathlib.Core.Path.{◌≡◌, refl, sym, ap, ◌∙◌}
use mathlib.Core.Logic.{◌≢◌}
use mathlib.Core.Bool.{Bool, true, false}
use mathlib.Core.List.{List, ◌∷◌, ◌++◌}
use native.Mathlib.Omega.{arith}
use Rattle.papers.specs.declared.Answer.{Answer}
use Rattle.papers.specs.Check.{judge_refusals}
use Rattle.papers.specs.Refusals.{answer, Verdict, passed, refused, first, refused_at, refused_if, Refusal}
use Rattle.papers.specs.Job.{Job}
use Rattle.papers.specs.Plan.{Plan}
use Rattle.job_laws.proofs.Firsts.{◌&◌, Each, first-each, first-passed-iff, first-append-passed, first-refuses}
use Rattle.std.specs.Prelude.{Option, Some, None}
use Rattle.refusals.specs.Answers.{place_if_any}
use Rattle.check_judge.specs.Judged.{ruling, plan_from}

-- a verdict that refuses has a number
abbrev Numbered : Verdict → Type 0
Numbered passed = Unit {0}
Numbered (refused a) = a.number ≢ 0

pub ruling-refused : {v : Verdict} {a r : Answer} (count : ℕ) → v ≡ refused a → r ≡ a → r ≡ ruling v count
unfolding ruling
ruling-refused count e q = rw e q

pub ruling-passed : {v : Verdict} {r : Answer} (count : ℕ) → v ≡ passed → r ≡ answer 0 0 count → r ≡ ruling v count
unfolding ruling
ruling-passed count e q = rw e q

-- the first test that refuses decides
pub decides : {C : Type 0} (before : List (Refusal C)) (r : Refusal C) (behind : List (Refusal C)) (c : C) {a : Answer}
    → Each (λ v. v ≡ passed) before c → r.test c ≡ refused a
    → first (before ++ (r ∷ behind)) c ≡ refused a
decides before r behind c ps q = first-append-passed before (r ∷ behind) c ((first-passed-iff before c).1 ps) ∙ first-refuses r behind c q

-- a test that refuses at the place found, or passes if that is 0
pub at-refuses : (number p : ℕ) {q : ℕ} → p ≡ q → p ≢ 0 → refused_at number q 0 ≡ refused (answer number p 0)
unfolding refused_at
at-refuses number zero e z = absurd (z refl)
at-refuses number (suc p) e z = rw (← e)

pub at-passes : (number : ℕ) {p q : ℕ} → p ≡ q → p ≡ 0 → refused_at number q 0 ≡ passed
unfolding refused_at
at-passes number e z = rw (← e, z)

-- the same of a place found as an Option

some-inj : {a b : ℕ} → ◌≡◌ {A = Option ℕ} (Some a) (Some b) → a ≡ b
some-inj e = cc

some-none : {a : ℕ} → ◌≡◌ {A = Option ℕ} (Some a) None → ⊥
some-none e = let z : ◌≡◌ {A = ℕ} 0 1 = cc in omega arith

pub place-refuses : (number q : ℕ) {p : ℕ} {found : Option ℕ} → found ≡ place_if_any q → found ≡ Some p
    → refused_at number q 0 ≡ refused (answer number p 0)
unfolding refused_at
place-refuses number zero e is = absurd (some-none (sym is ∙ e))
place-refuses number (suc k) e is = ap (λ x. refused (answer number x 0)) (sym (some-inj (sym is ∙ e)))

pub place-passes : (number q : ℕ) {found : Option ℕ} → found ≡ place_if_any q → found ≡ None → refused_at number q 0 ≡ passed
unfolding refused_at
place-passes number zero e is = refl
place-passes number (suc k) e is = absurd (some-none (sym e ∙ is))

pub number_of : {r : Answer} {number place count : ℕ} → r ≡ answer number place count → r.number ≡ number
number_of e = ap (λ (a : Answer). a.number) e

-- ---- the answer tells a plan's verdict

-- a refusal of a plan has a number
numbered-at : (number place count : ℕ) → number ≢ 0 → Numbered (refused_at number place count)
unfolding refused_at
numbered-at number zero count h = tt
numbered-at number (suc p) count h = h

numbered-if : (b : Bool) (a : Answer) → a.number ≢ 0 → Numbered (refused_if b a)
unfolding refused_if
numbered-if true a h = h
numbered-if false a h = tt

-- 0 if the plan passes, else the refusal
pub data Told (v : Verdict) (peak : ℕ) (r : Answer) : Type 0 where
  refusal : v ≡ refused r → r.number ≢ 0 → Told v peak r
  clean : v ≡ passed → r ≡ answer 0 0 peak → Told v peak r

pub told : (job : Job) (plan : Plan) (peak : ℕ) {r : Answer} → r ≡ ruling (first judge_refusals (plan_from job plan)) peak
    → Told (first judge_refusals (plan_from job plan)) peak r
unfolding ruling judge_refusals
told job plan peak {r} e =
    go (first judge_refusals (plan_from job plan)) refl
    (first-each Numbered judge_refusals (plan_from job plan) tt
    (numbered-at 16 _ 0 (λ z. omega arith)
    & numbered-at 17 _ 0 (λ z. omega arith)
    & numbered-at 18 _ 0 (λ z. omega arith)
    & numbered-at 19 _ 0 (λ z. omega arith)
    & numbered-if _ _ (λ z. omega arith)
    & numbered-if _ _ (λ z. omega arith)
    & tt))
  where
    go : (v : Verdict) → first judge_refusals (plan_from job plan) ≡ v → Numbered (first judge_refusals (plan_from job plan))
        → Told (first judge_refusals (plan_from job plan)) peak r
    go passed q some = clean q (e ∙ ap (λ v. ruling v peak) q)
    go (refused a) q some =
        let h = rw q at some in
        let f : r ≡ a = e ∙ ap (λ v. ruling v peak) q in
        refusal (q ∙ rw f) (rw f h)
