-- Proves that a plan is read back from its bytes, and that a plan that is read has exactly these bytes, with nothing after them. A plan is
-- read number by number, behind its key.
-- Assumes nothing.
use Prim.Native.Nat.{ℕ, zero, suc, ◌+◌, ◌-◌, ◌*◌, ◌^◌, ◌<◌, ◌≤◌}
use mathlib.Core.Path.{◌≡◌, refl, ap, ◌∙◌}
use mathlib.Core.Bool.{Bool, true, false}
use mathlib.Core.List.{List, [], ◌∷◌, ◌++◌, append_assoc, append-nil}
use native.Mathlib.Omega.{arith}
use lib.Dec.{ltb}
use lib.ListN.{length}
use borrow.Author.Tests.{ltb-false, le-ltb}
use Rattle.papers.specs.Bounds.{max_groups, max_peak}
use Rattle.papers.specs.Numbers.{bytes_of, encode, Read, got, bad, field, at_end, Bytes}
use Rattle.papers.specs.Key.{lists_numbers, lists_read_from}
use Rattle.papers.specs.Plan.{Plan, StepsFit, Fit, step_numbers, plan_numbers, step_read_from, steps_read_from, plan_read_from}
use Rattle.bytes_laws.proofs.Numbers.{encode-append}
use Rattle.bytes_laws.proofs.Fields.{got-inj, got-bad, then-got, then-only, onto-got, onto-only, Spans, spans-none, spans-both}
use Rattle.bytes_laws.proofs.Fields.{spans-cut, field-got, field-only, field_back}
use Rattle.bytes_laws.proofs.Gaps.{lists_back, lists-only}

-- ---- nothing after

pub end-got : {A : Type 0} (a : A) (s : List ℕ) (at : ℕ) → length s ≤ at → at_end a s at ≡ got a at
unfolding at_end
end-got a s at h = rw (le-ltb at (length s) h, at_end)

pub end-only : {A : Type 0} (a b : A) (s : List ℕ) (at next : ℕ) → at_end a s at ≡ got b next → (a ≡ b) × (at ≡ next) × (length s ≤ next)
unfolding at_end
end-only a b s at next e = go (ltb at (length s)) refl e
  where
    go : (p : Bool) → ltb at (length s) ≡ p → ◌≡◌ {A = Read _} (elim p [ true ↦ bad 15 (at + 1) | false ↦ got a at ]) (got b next)
        → (a ≡ b) × (at ≡ next) × (length s ≤ next)
    go true q f = absurd (got-bad f refl)
    go false q f = let (m, n) = got-inj f in (m, n, omega (arith, ltb-false at (length s) q))

-- ---- a plan at a place is read

module _ (n : ℕ) (fits : n < 2 ^ (7 * max_groups)) (s : List ℕ) where
  steps_back : (xs : List (ℕ × ℕ)) (at next : ℕ) → StepsFit n xs → Spans s at (encode (step_numbers xs)) next
      → steps_read_from n (length xs) s at ≡ got xs next
  unfolding steps_read_from step_read_from step_numbers encode
  steps_back [] at next f a = ap (got []) (let p = a.place in omega arith)
  steps_back (x ∷ xs) at next f a =
      let (p, b) = spans-cut (bytes_of x.0) (bytes_of x.1 ++ encode (step_numbers xs)) a in
      let (q, c) = spans-cut (bytes_of x.1) (encode (step_numbers xs)) b in
      let step = then-got _ (field_back 1 n s at x.0 _ f.0.0 f.0.1 (omega arith) p)
      ∙ then-got _ (field_back 0 (n - 1) s _ x.1 _ (omega arith) f.0.2 (omega arith) q) in
      then-got _ step ∙ onto-got (x ∷ []) (steps_back xs _ next f.1 c)

  -- bytes that end with the numbers of a plan are read as that plan
  pub plan-back : (plan : Plan) (at : ℕ) → Fit n plan → Spans s at (encode (plan_numbers plan)) (length s) → plan_read_from n s at ≡ got plan (length s)
  unfolding plan_read_from plan_numbers encode
  plan-back plan at f a =
      let lists = lists_numbers 1 plan.lists in
      let (p, b) = spans-cut (encode (step_numbers plan.steps)) (encode (lists ++ (plan.peak ∷ [])))
      (rw (encode-append (step_numbers plan.steps) (lists ++ (plan.peak ∷ []))) at a) in
      let (q, c) = spans-cut (encode lists) (encode (plan.peak ∷ [])) (rw (encode-append lists (plan.peak ∷ [])) at b) in
      let r = rw (append-nil (bytes_of plan.peak)) at c in
      let h = f.peak in
      then-got _ (rw f.all-steps at (steps_back plan.steps at _ f.steps p))
      ∙ then-got _ (rw f.all-lists at (lists_back n fits s 1 plan.lists _ _ f.lists q))
      ∙ then-got _ (field_back 0 max_peak s _ plan.peak _ (omega arith) h (omega arith) r)
      ∙ end-got plan s (length s) (omega arith)

-- ---- a plan that is read is at that place

module _ (n : ℕ) (s : List ℕ) (bytes : Bytes s) where
  step-only : (at : ℕ) (x : ℕ × ℕ) (next : ℕ) → step_read_from n s at ≡ got x next
      → ((1 ≤ x.0) × (x.0 ≤ n) × (x.1 ≤ n - 1)) × Spans s at (bytes_of x.0 ++ bytes_of x.1) next
  unfolding step_read_from
  step-only at x next e =
      let (column, mid, f, t) = then-only _ (field 1 n s at) e in
      let (pops, end, g, u) = then-only _ (field 0 (n - 1) s mid) t in
      there column mid pops end f g (got-inj u).0 (got-inj u).1
    where
      there : (column mid pops end : ℕ) → field 1 n s at ≡ got column mid → field 0 (n - 1) s mid ≡ got pops end → (column, pops) ≡ x → end ≡ next
          → ((1 ≤ x.0) × (x.0 ≤ n) × (x.1 ≤ n - 1)) × Spans s at (bytes_of x.0 ++ bytes_of x.1) next
      there column mid pops end f g v w =
          let a = field-got 1 n s at column mid f in
          let b = field-got 0 (n - 1) s mid pops end g in
          rw (← v, ← w) (
            (a.low, a.high, b.high),
            spans-both (bytes_of column) (bytes_of pops) (field-only 1 n s at column mid bytes f) (field-only 0 (n - 1) s mid pops end bytes g),
          )

  steps-only : (k at : ℕ) (xs : List (ℕ × ℕ)) (next : ℕ) → steps_read_from n k s at ≡ got xs next
      → (length xs ≡ k) × StepsFit n xs × Spans s at (encode (step_numbers xs)) next
  unfolding steps_read_from step_numbers encode
  steps-only zero at xs next e = let (p, q) = got-inj e in rw (← p, ← q) (refl, tt, spans-none s at)
  steps-only (suc k) at xs next e =
      let (x, mid, f, g) = then-only _ (step_read_from n s at) e in
      let (ys, h, q) = onto-only (x ∷ []) (steps_read_from n k s mid) g in
      let (here, a) = step-only at x mid f in
      let (c, fit, b) = steps-only k mid ys next h in
      let rest = encode (step_numbers ys) in
      rw (← q) (
        ap suc c,
        (here, fit),
        rw (← append_assoc (bytes_of x.0) (bytes_of x.1) rest) (spans-both (bytes_of x.0 ++ bytes_of x.1) rest
            a b),
      )

  -- a plan that is read is in its ranges, and the bytes read are those of its numbers, up to the end
  pub plan-only : (plan : Plan) (at next : ℕ) → plan_read_from n s at ≡ got plan next
      → (next ≡ length s) × Fit n plan × Spans s at (encode (plan_numbers plan)) next
  unfolding plan_read_from plan_numbers encode
  plan-only plan at next e =
      let (steps, to, f, t) = then-only _ (steps_read_from n n s at) e in
      let (lists, mid, g, u) = then-only _ (lists_read_from n 1 n s to) t in
      let (peak, end, h, v) = then-only _ (field 0 max_peak s mid) u in
      there steps to lists mid peak end f g h (end-only _ plan s end next v)
    where
      there : (steps : List (ℕ × ℕ)) (to : ℕ) (lists : List (List ℕ)) (mid peak end : ℕ)
          → steps_read_from n n s at ≡ got steps to → lists_read_from n 1 n s to ≡ got lists mid → field 0 max_peak s mid ≡ got peak end
          → (record { steps = steps; lists = lists; peak = peak } ≡ plan) × (end ≡ next) × (length s ≤ next)
          → (next ≡ length s) × Fit n plan × Spans s at (encode (plan_numbers plan)) next
      there steps to lists mid peak end f g h (p, q, over) =
          let (c, fit, a) = steps-only n at steps to f in
          let (d, fits, b) = lists-only n s bytes 1 n to lists mid g in
          let found = field-got 0 max_peak s mid peak end h in
          let inside = found.inside in
          let last = encode (peak ∷ []) in
          let ends : Spans s mid last end = rw (append-nil (bytes_of peak)) (field-only 0 max_peak s mid peak end bytes h) in
          rw (← p, ← q) (
            omega arith,
            record { all-steps = c; steps = fit; all-lists = d; lists = fits; peak = found.high },
            rw (encode-append (step_numbers steps) (lists_numbers 1 lists ++ (peak ∷ [])), encode-append (lists_numbers 1 lists) (peak ∷ []))
                (spans-both (encode (step_numbers steps)) (encode (lists_numbers 1 lists) ++ last) a (spans-both (encode (lists_numbers 1 lists)) last b
                ends)),
          )
