-- Proves how far reading goes: each number takes at least one byte, so places only go forward, by at least as many bytes as there are
-- numbers, and never past the end.
-- Assumes nothing.
use Prim.Native.Nat.{ℕ, zero, suc, ◌+◌, ◌-◌, ◌≤◌}
use mathlib.Core.Path.{◌≡◌, sym, ap, ◌∙◌}
use mathlib.Core.List.{List, [], ◌∷◌, ◌++◌}
use native.Mathlib.Omega.{arith}
use lib.ListN.{length, length-append}
use Rattle.papers.specs.Lists.{flat}
use Rattle.papers.specs.Numbers.{got, field}
use Rattle.papers.specs.Key.{rows_read_from, list_read_from, lists_read_from}
use Rattle.papers.specs.Plan.{step_read_from, steps_read_from}
use Rattle.bytes_laws.proofs.Fields.{got-inj, then-only, onto-only, field-got}

-- reading from `at` reaches next over at least this many numbers
pub record Reach (s : List ℕ) (at numbers next : ℕ) : Type 0 where
  pub on : at + numbers ≤ next
  pub inside : at ≤ length s → next ≤ length s

module _ {s : List ℕ} where
  reach-none : {at next : ℕ} → at ≡ next → Reach s at 0 next
  reach-none e = record { on = omega arith; inside = λ h. omega arith }

  reach-both : {at a mid b next : ℕ} (c : ℕ) → Reach s at a mid → Reach s mid b next → c ≡ a + b → Reach s at c next
  reach-both c p q e = let x = p.on in let y = q.on in record { on = omega arith; inside = λ h. q.inside (p.inside h) }

  field-reach : (lo hi at v next : ℕ) → field lo hi s at ≡ got v next → Reach s at 1 next
  field-reach lo hi at v next e =
      let f = field-got lo hi s at v next e in
      let x = f.on in
      record { on = omega arith; inside = λ h. f.inside }

module _ (n : ℕ) (s : List ℕ) where
  pub step-reach : (at : ℕ) (x : ℕ × ℕ) (next : ℕ) → step_read_from n s at ≡ got x next → Reach s at 2 next
  unfolding step_read_from
  step-reach at x next e =
      let (column, mid, f, t) = then-only _ (field 1 n s at) e in
      let (pops, end, g, u) = then-only _ (field 0 (n - 1) s mid) t in
      let last : Reach s end 0 next = reach-none (got-inj u).1 in
      reach-both 2 (field-reach 1 n at column mid f) (reach-both 1 (field-reach 0 (n - 1) mid pops end g) last (omega arith)) (omega arith)

  pub steps-reach : (k at : ℕ) (xs : List (ℕ × ℕ)) (next : ℕ) → steps_read_from n k s at ≡ got xs next → (length xs ≡ k) × Reach s at (k + k) next
  unfolding steps_read_from
  steps-reach zero at xs next e = let (p, q) = got-inj e in (ap length (sym p), reach-none q)
  steps-reach (suc k) at xs next e =
      let (x, mid, f, g) = then-only _ (step_read_from n s at) e in
      let (ys, h, q) = onto-only (x ∷ []) (steps_read_from n k s mid) g in
      let (c, r) = steps-reach k mid ys next h in
      (ap length (sym q) ∙ ap suc c, reach-both (suc k + suc k) (step-reach at x mid f) r (omega arith))

  pub rows-reach : (b k at : ℕ) (l : List ℕ) (next : ℕ) → rows_read_from n b k s at ≡ got l next → (length l ≡ k) × Reach s at k next
  unfolding rows_read_from
  rows-reach b zero at l next e = let (p, q) = got-inj e in (ap length (sym p), reach-none q)
  rows-reach b (suc k) at l next e =
      let (gap, mid, f, g) = then-only _ (field 1 (n - b) s at) e in
      let (xs, h, q) = onto-only ((b + gap) ∷ []) (rows_read_from n (b + gap) k s mid) g in
      let (c, r) = rows-reach (b + gap) k mid xs next h in
      (ap length (sym q) ∙ ap suc c, reach-both (suc k) (field-reach 1 (n - b) at gap mid f) r (omega arith))

  pub list-reach : (j at : ℕ) (l : List ℕ) (next : ℕ) → list_read_from n j s at ≡ got l next → Reach s at (suc (length l)) next
  unfolding list_read_from
  list-reach j at l next e =
      let (count, mid, f, g) = then-only _ (field 0 (n - j) s at) e in
      let (c, r) = rows-reach j count mid l next g in
      reach-both (suc (length l)) (field-reach 0 (n - j) at count mid f) r (omega arith)

  pub lists-reach : (j k at : ℕ) (ls : List (List ℕ)) (next : ℕ) → lists_read_from n j k s at ≡ got ls next
      → (length ls ≡ k) × Reach s at (k + length (flat ls)) next
  unfolding lists_read_from flat
  lists-reach j zero at ls next e =
      let (p, q) = got-inj e in
      (ap length (sym p), rw (← p) (reach-none q))
  lists-reach j (suc k) at ls next e =
      let (l, mid, f, g) = then-only _ (list_read_from n j s at) e in
      let (ms, h, q) = onto-only (l ∷ []) (lists_read_from n (suc j) k s mid) g in
      let (c, r) = lists-reach (suc j) k mid ms next h in (
        ap length (sym q) ∙ ap suc c,
        rw (← q) (reach-both (suc k + length (l ++ flat ms)) (list-reach j at l mid f) r (omega (arith, length-append l (flat ms)))),
      )
