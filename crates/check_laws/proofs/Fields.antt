-- Proves that reading goes from field to field while each number is there, in shortest form and in its range, and that it can go one way
-- only. So the place where reading halts, at a number at fault or behind the peak, is determined.
-- Assumes nothing.
use Prim.Native.Nat.{ℕ, ◌+◌, ◌<◌, ◌≤◌}
use mathlib.Core.Path.{◌≡◌, refl, sym, ◌∙◌}
use mathlib.Core.Logic.{◌↔◌, ◌⊎◌, inl, inr, ◌≢◌}
use mathlib.Core.List.{List}
use native.Mathlib.Omega.{arith}
use lib.ListN.{length}
use Rattle.papers.specs.Refusals.{answer}
use Rattle.papers.specs.Numbers.{number_read_from, Read, got, bad, field, Stands, Number}
use Rattle.papers.specs.Plan.{Field, nothing, next_step, following, Reaches, begin, next, PlanFault, twelve, thirteen, fourteen, fifteen, range}
use Rattle.papers.specs.declared.Answer.{Answer}
use Rattle.papers.specs.declared.NumberFault.TheVariants.{Ended, TooLong, NotShortest}
use Rattle.std.specs.Prelude.{Ok, Err}
use Rattle.list_laws.proofs.Tests.{below_or}
use Rattle.bytes_laws.proofs.Stands.{number-stands-iff}
use Rattle.bytes_laws.proofs.Fields.{got-inj, got-bad, field-got}
use Rattle.check_laws.proofs.OneField.{bad-inj, in-range, out_of_range, ended, not-shortest}

-- ---- from field to field

module _ (n : ℕ) (s : List ℕ) where
  -- the number that is read of field x at a place
  abbrev pub number_at : Field → ℕ → Read ℕ
  number_at x at = field (range n x).0 (range n x).1 s at

  -- reading from field x at `at` comes to field y at `to`
  pub data Leads (y : Field) (to : ℕ) : Field → ℕ → Type 0 where
    stay : Leads y to y to
    on : {x : Field} {at v mid : ℕ} → x ≢ nothing → number_at x at ≡ got v mid → Leads y to (following n x v) mid → Leads y to x at

  pub leads-on : {y : Field} {to : ℕ} {z : Field} {end : ℕ} {x : Field} {at : ℕ} → Leads y to x at → Leads z end y to → Leads z end x at
  leads-on stay k = k
  leads-on (on h e l) k = on h e (leads-on l k)

  -- reading halts at field y: a number is at fault there, or a byte follows the peak
  pub data Halts (y : Field) (to : ℕ) : ℕ → ℕ → Type 0 where
    at-number : {number place : ℕ} → y ≢ nothing → number_at y to ≡ bad number place → Halts y to number place
    behind : y ≡ nothing → to < length s → Halts y to 15 (to + 1)

  -- reading goes no further from a field
  abbrev Stuck : Field → ℕ → Type 0
  Stuck y to = (v mid : ℕ) → y ≢ nothing → number_at y to ≡ got v mid → ⊥

  leads-once : {y : Field} {to : ℕ} {z : Field} {end : ℕ} {x : Field} {at : ℕ} → Leads y to x at → Stuck y to → Leads z end x at → Stuck z end
      → (y ≡ z) × (to ≡ end)
  leads-once stay p stay q = (refl, refl)
  leads-once stay p (on h e l) q = absurd (p _ _ h e)
  leads-once (on h e l) p stay q = absurd (q _ _ h e)
  leads-once (on h e l) p (on g f m) q = let (c, d) = got-inj (sym e ∙ f) in leads-once l p (rw (c, d) m) q

  halts-stuck : {y : Field} {to number place : ℕ} → Halts y to number place → Stuck y to
  halts-stuck (at-number h e) v mid k f = got-bad f e
  halts-stuck (behind e l) v mid k f = k e

  halts-one : {y : Field} {to a p b q : ℕ} → Halts y to a p → Halts y to b q → (a ≡ b) × (p ≡ q)
  halts-one (at-number h e) (at-number g f) = bad-inj (sym e ∙ f)
  halts-one (at-number h e) (behind g l) = absurd (h g)
  halts-one (behind e l) (at-number h f) = absurd (h e)
  halts-one (behind e l) (behind f k) = (refl, refl)

  -- reading from field x at `at` comes to a field where it halts
  abbrev pub Fails : Field → ℕ → ℕ → ℕ → Type 0
  Fails x at number place = (y : Field) × (to : ℕ) × Leads y to x at × Halts y to number place

  -- reading fails in one way only, and then it does not reach the end
  pub fails-one : {x : Field} {at a p b q : ℕ} → Fails x at a p → Fails x at b q → (a ≡ b) × (p ≡ q)
  fails-one {a = a} {p = p} (y, to, l, h) (z, end, m, k) =
      let (c, d) = leads-once l (halts-stuck h) m (halts-stuck k) in halts-one (rw (c, d) at h) k

  pub fails-no-end : {x : Field} {at a p end : ℕ} → Fails x at a p → Leads nothing end x at → length s ≤ end → ⊥
  fails-no-end (y, to, l, h) m u = let (c, d) = leads-once l (halts-stuck h) m (λ v mid k f. k refl) in go u (rw (c, d) at h)
    where
      go : {a end p : ℕ} → length s ≤ end → Halts nothing end a p → ⊥
      go u (at-number h e) = h refl
      go u (behind e l) = omega arith

  -- ---- the conditions

  -- a number is read as `Stands` says
  standing : (at : ℕ) (x : Number) → number_read_from s at ≡ x → Stands s at x
  standing at x e = (number-stands-iff s at x).0 e

  module _ (from : ℕ) where
    reaches : {y : Field} {to : ℕ} {x : Field} {at : ℕ} → Reaches n s from x at → Leads y to x at → Reaches n s from y to
    reaches r stay = r
    reaches r (on h e l) = let f = field-got _ _ s _ _ _ e in reaches (next r h (standing _ _ f.number) f.low f.high) l

    leads : {x : Field} {at : ℕ} → Reaches n s from x at → Leads x at (next_step n n) from
    leads begin = stay
    leads (next r h e l u) = leads-on (leads r) (on h (in-range _ _ s _ _ _ ((number-stands-iff s _ _).1 e) l u) stay)

    bad-number : {y : Field} {to number place : ℕ} → Reaches n s from y to → y ≢ nothing → number_at y to ≡ bad number place
        → PlanFault n s from (answer number place 0)
    bad-number {y} {to} {number} {place} r h e = go (number_read_from s to) refl
      where
        same : (m : ℕ) → number_at y to ≡ bad m (to + 1) → answer number place 0 ≡ answer m (to + 1) 0
        same m f = let (a, b) = bad-inj (sym e ∙ f) in cc

        out : (v end : ℕ) → number_read_from s to ≡ Ok (v, end) → (v < (range n y).0) ⊎ ((range n y).0 ≤ v) → ((range n y).1 < v) ⊎ (v ≤ (range n y).1)
            → PlanFault n s from (answer number place 0)
        out v end q (inl l) u = rw (same 14 (out_of_range _ _ s to v end q (inl l))) (fourteen r h (standing _ _ q) (inl l))
        out v end q (inr l) (inl u) = rw (same 14 (out_of_range _ _ s to v end q (inr u))) (fourteen r h (standing _ _ q) (inr u))
        out v end q (inr l) (inr u) = absurd (got-bad (in-range _ _ s to v end q l u) e)

        go : (m : Number) → number_read_from s to ≡ m → PlanFault n s from (answer number place 0)
        go (Ok (v, end)) q = out v end q (below_or v (range n y).0) (below_or (range n y).1 v)
        go (Err Ended) q = rw (same 12 (ended _ _ s to q)) (twelve r h (standing _ _ q))
        go (Err TooLong) q = rw (same 13 (not-shortest _ _ s to (inl q))) (thirteen r h (inl (standing _ _ q)))
        go (Err NotShortest) q = rw (same 13 (not-shortest _ _ s to (inr q))) (thirteen r h (inr (standing _ _ q)))

    -- reading fails exactly as the conditions say
    pub fails-iff : (number place : ℕ) → Fails (next_step n n) from number place ↔ PlanFault n s from (answer number place 0)
    fails-iff number place = (λ (y, to, l, h). there (reaches begin l) h, back (answer number place 0))
      where
        there : {y : Field} {to number place : ℕ} → Reaches n s from y to → Halts y to number place → PlanFault n s from (answer number place 0)
        there r (at-number h e) = bad-number r h e
        there r (behind e l) = fifteen (rw e at r) l

        either : {at : ℕ} → Stands s at (Err TooLong) ⊎ Stands s at (Err NotShortest)
            → (number_read_from s at ≡ Err TooLong) ⊎ (number_read_from s at ≡ Err NotShortest)
        either (inl e) = inl ((number-stands-iff s _ _).1 e)
        either (inr e) = inr ((number-stands-iff s _ _).1 e)

        back : (a : Answer) → PlanFault n s from a → Fails (next_step n n) from a.number a.place
        back a (twelve {x = x} {at = at} r h e) = (x, at, leads r, at-number h (ended _ _ s at ((number-stands-iff s at (Err Ended)).1 e)))
        back a (thirteen {x = x} {at = at} r h e) = (x, at, leads r, at-number h (not-shortest _ _ s at (either e)))
        back a (fourteen {x = x} {at = at} r h e o) = (x, at, leads r, at-number h (out_of_range _ _ s at _ _ ((number-stands-iff s at _).1 e) o))
        back a (fifteen {at = at} r l) = (nothing, at, leads r, behind refl l)
