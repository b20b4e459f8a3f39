-- Proves that the answer of a check is a small number with a place that n and the rows bound, however long the plan is. Each test names
-- its number and its place: a column or a step of 1 to n, a byte of the key, or a byte that reading behind it can reach.
-- Assumes nothing.
use Prim.Native.Nat.{ℕ, zero, suc, ◌+◌, ◌*◌, ◌≤◌}
use mathlib.Core.Path.{◌≡◌, refl, ◌∙◌}
use mathlib.Core.Bool.{Bool, true, false}
use mathlib.Core.List.{List, [], ◌∷◌, ◌++◌}
use native.Mathlib.Omega.{arith}
use lib.ListN.{length}
use Rattle.papers.specs.declared.Answer.{Answer}
use Rattle.papers.specs.Bounds.{max_groups}
use Rattle.papers.specs.Lists.{least}
use Rattle.papers.specs.Refusals.{answer, Verdict, passed, refused, refused_if, refused_at, Refusal, first}
use Rattle.papers.specs.Job.{RowLists, job_lists, bad_starts, FaultyColumn, five, six, job_refusals}
use Rattle.papers.specs.Numbers.{Read, got, bad}
use Rattle.papers.specs.Key.{key_of}
use Rattle.papers.specs.Plan.{Plan, plan_read, PlanFault, twelve, thirteen, fourteen, fifteen}
use Rattle.papers.specs.Analysis.{all_zero, early_refusals}
use Rattle.papers.specs.Check.{CheckCall, judge_refusals, plan_test, plan_refusals, check_early, check_late, check_done, checked}
use Rattle.list_laws.proofs.Leasts.{least-found-iff}
use Rattle.job_laws.proofs.Firsts.{first_passes, first-refuses, first-append-passed, first-append-refused}
use Rattle.job_laws.proofs.Outcomes.{outcome-early, outcome-late, outcome-done}
use Rattle.job_laws.proofs.Starts.{starts-iff}
use Rattle.refusal_laws.proofs.Agreements.{Agree, ◌▸◌}
use Rattle.refusal_laws.proofs.Rows.{rows_agree}
use Rattle.check_laws.proofs.PlanBytes.{read-agree}
use Rattle.check_laws.proofs.Check.{done-zero}
use Rattle.call_laws.proofs.Lengths.{most_of, key-short, reaches-short}

-- number and place are at most these
pub record Within (most high : ℕ) (a : Answer) : Type 0 where
  pub number : a.number ≤ most
  pub place : a.place ≤ high

-- an answer whose number and place are within these bounds
pub within : {most high : ℕ} {a : Answer} (number place count : ℕ) → a ≡ answer number place count → number ≤ most → place ≤ high → Within most high a
within number place count e h g = rw e (record { number = h; place = g })

-- ---- what holds of the answer of each test holds of the answer of the call

module _ (P : Answer → Type 0) where
  -- the answer of a refusal
  abbrev Of : Verdict → Type 0
  Of passed = Unit {0}
  Of (refused a) = P a

  of-if : (b : Bool) (a : Answer) → P a → Of (refused_if b a)
  unfolding refused_if
  of-if true a h = h
  of-if false a h = tt

  of-least : (number : ℕ) (f : ℕ → Bool) (n : ℕ) → ((p : ℕ) → p ≤ n → P (answer number p 0)) → Of (refused_at number (least f n) 0)
  unfolding refused_at
  of-least number f n h = go (least f n) refl
    where
      go : (m : ℕ) → least f n ≡ m → Of (refused_at number m 0)
      go zero e = tt
      go (suc p) e = h (suc p) ((least-found-iff f n p).0 e).0

  -- a test that agrees with a condition
  of_agree : (v : Verdict) {K : Answer → Type 0} → Agree v K → ((a : Answer) → K a → P a) → Of v
  of_agree v {K} agree h = go v refl
    where
      go : (w : Verdict) → v ≡ w → Of w
      go passed e = tt
      go (refused a) e = h a ((agree.same a).0 e)

  -- a test of the plan that was read
  of-plan : (call : CheckCall) (test : CheckCall × Plan → Verdict) → ((plan : Plan) → Of (test (call, plan))) → Of (plan_test test call)
  unfolding plan_test
  of-plan call test h = go (plan_read call.job call.plan) refl
    where
      go : (x : Read Plan) → plan_read call.job call.plan ≡ x → Of (plan_test test call)
      go (got plan at) e = rw (e, plan_test) (h plan)
      go (bad number place) e = rw (e, plan_test) tt

  module _ {C : Type 0} where
    -- test by test, if those before pass
    abbrev EachGives : List (Refusal C) → C → Type 0
    EachGives [] call = Unit {0}
    EachGives (r ∷ rs) call = Of (r.test call) × (r.test call ≡ passed → EachGives rs call)

    each-gives : (rs : List (Refusal C)) (call : C) → EachGives rs call → Of (first rs call)
    unfolding first
    each-gives [] call h = tt
    each-gives (r ∷ rs) call h = go (r.test call) refl (λ q. each-gives rs call (h.1 q))
      where
        go : (v : Verdict) → r.test call ≡ v → (r.test call ≡ passed → Of (first rs call)) → Of (first (r ∷ rs) call)
        go passed q ih = rw (first_passes r rs call q) (ih q)
        go (refused a) q ih = rw (first-refuses r rs call q) (rw q at h.0)

-- ---- places

column-within : {c : RowLists} {j m : ℕ} → FaultyColumn c j m → m ≤ 6
column-within (five r fine o) = omega arith
column-within (six r fine o f) = omega arith

plan-within : {n from : ℕ} {s : List ℕ} {a : Answer} → PlanFault n s from a → Within 15 (from + max_groups * (2 * n + most_of n n) + 1) a
plan-within {n} (twelve r some e) = let h = reaches-short n r in record { number = omega arith; place = omega arith }
plan-within {n} (thirteen r some e) = let h = reaches-short n r in record { number = omega arith; place = omega arith }
plan-within {n} (fourteen r some e o) = let h = reaches-short n r in record { number = omega arith; place = omega arith }
plan-within {n} (fifteen r l) = let h = reaches-short n r in record { number = omega arith; place = omega arith }

-- the last place that a check of this many columns and rows can answer
abbrev pub farthest : ℕ → ℕ → ℕ
farthest n rows = max_groups * (4 + n + rows + (2 * n + most_of n n)) + 1

-- ---- the check

module _ (call : CheckCall) where
  abbrev Small : Answer → Type 0
  Small = Within 20 (farthest call.job.n (length call.job.rows))

  -- if 4 is not answered, the key is short
  key-within : bad_starts.test (job_lists call.job) ≡ passed
      → length (key_of call.job) ≤ max_groups * (4 + call.job.n + length call.job.rows)
  key-within pass = key-short call.job ((starts-iff _ _ _).0 pass)

  small : EachGives Small (check_early ++ check_late) call
  unfolding check_early early_refusals check_late job_refusals plan_refusals judge_refusals
  small =
      of-if Small _ _ (within 1 0 0 refl (omega arith) (omega arith))
      ▸ λ p. of-if Small _ _ (within 2 0 0 refl (omega arith) (omega arith))
      ▸ λ p. of-if Small _ _ (within 3 0 0 refl (omega arith) (omega arith))
      ▸ λ p. each-gives Small _ (job_lists call.job)
      (of-if Small _ _ (within 4 0 0 refl (omega arith) (omega arith))
      ▸ λ q. of-if Small _ _ (within 4 0 0 refl (omega arith) (omega arith))
      ▸ λ q. of-least Small 4 _ _ (λ p l. within 4 p 0 refl (omega arith) (omega arith))
      ▸ λ q. of-if Small _ _ (within 4 call.job.n 0 refl (omega arith) (omega arith))
      ▸ λ q. tt)
      ▸ λ fine. of_agree Small _ (rows_agree (job_lists call.job))
      (λ a (j, m, (l, u), f, none, e). let s = column-within f in within m j 0 e (omega arith) (omega arith))
      ▸ λ p. of-if Small _ _ (within 7 0 0 refl (omega arith) (omega arith))
      ▸ λ p. of-least Small 11 _ _ (λ p l. within 11 p 0 refl (omega arith) (omega (arith, key-within fine)))
      ▸ λ p. of_agree Small _ (read-agree call)
      (λ a h. let w = plan-within h in record { number = omega (arith, w.number); place = omega (arith, w.place, key-within fine) })
      ▸ λ p. of-plan Small call _ (λ plan. of-if Small _ _ (within 8 0 _ refl (omega arith) (omega arith)))
      ▸ λ p. of-plan Small call _ (λ plan. of-least Small 16 _ _ (λ p l. within 16 p 0 refl (omega arith) (omega arith)))
      ▸ λ p. of-plan Small call _ (λ plan. of-least Small 17 _ _ (λ p l. within 17 p 0 refl (omega arith) (omega arith)))
      ▸ λ p. of-plan Small call _ (λ plan. of-least Small 18 _ _ (λ p l. within 18 p 0 refl (omega arith) (omega arith)))
      ▸ λ p. of-plan Small call _ (λ plan. of-least Small 19 _ _ (λ p l. within 19 p 0 refl (omega arith) (omega arith)))
      ▸ λ p. of-plan Small call _ (λ plan. of-if Small _ _ (within 20 0 _ refl (omega arith) (omega arith)))
      ▸ λ p. of-plan Small call _ (λ plan. of-if Small _ _ (within 9 0 _ refl (omega arith) (omega arith)))
      ▸ λ p. tt

  -- the number of a check is at most 20, and its place at most the last that its columns and rows allow
  pub check-bounded : Within 20 (farthest call.job.n (length call.job.rows)) (checked call.job call.plan call.lent).answered
  unfolding checked
  check-bounded = go (first check_early call) refl (first check_late call) refl
    where
      decides : (a : Answer) → first (check_early ++ check_late) call ≡ refused a → Small a
      decides a e = rw e at (each-gives Small (check_early ++ check_late) call small)

      go : (v : Verdict) → first check_early call ≡ v → (w : Verdict) → first check_late call ≡ w
          → Small (checked call.job call.plan call.lent).answered
      go (refused a) e w f =
          rw (outcome-early check_early check_late check_done all_zero call call.lent e) (decides a (first-append-refused check_early check_late call e))
      go passed e (refused a) f =
          rw (outcome-late check_early check_late check_done all_zero call call.lent e f)
          (decides a (first-append-passed check_early check_late call e ∙ f))
      go passed e passed f =
          let (z, at) = done-zero call f in
          rw (outcome-done check_early check_late check_done all_zero call call.lent e f) (record { number = omega arith; place = omega arith })
