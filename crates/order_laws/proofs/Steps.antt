-- Proves facts of steps, counted from 1: consecutive steps are a slice of the order, and in an order without repeats a column has one step.
-- Assumes nothing.
use Prim.Native.Nat.{ℕ, zero, suc, ◌+◌, ◌-◌, ◌<◌, ◌≤◌}
use mathlib.Core.Path.{◌≡◌, refl, sym, ap, ◌∙◌}
use mathlib.Core.Logic.{◌⊎◌, inl, inr, ◌↔◌}
use mathlib.Core.List.Memᴰ
use mathlib.Core.List.{List, [], ◌∷◌}
use native.Mathlib.Omega.{arith}
use lib.ListN.{length, get_or, take, drop, take-append-drop}
use lib.Seq.{slice, length-slice, get_or-take, get_or-drop, take-length}
use Rattle.papers.specs.Lists.{◌∈◌, Distinct}
use Rattle.papers.specs.Order.{column_at_step}
use Rattle.list_laws.proofs.Counts.{distinct_append}
use Rattle.list_laws.proofs.Members.{at_place}

-- the place of a column in the list, counted from 0
place_of : (l : List ℕ) {x : ℕ} → x ∈ l → (k : ℕ) × (k < length l) × (get_or l k 0 ≡ x)
place_of [] m = absurd (Memᴰ.not-nil m)
place_of (y ∷ l) {x} m = go (Memᴰ.cases_cons m) (λ t. place_of l t)
  where
    go : (x ≡ y) ⊎ (x ∈ l) → (x ∈ l → (k : ℕ) × (k < length l) × (get_or l k 0 ≡ x)) → (k : ℕ) × (k < suc (length l)) × (get_or (y ∷ l) k 0 ≡ x)
    go (inl e) ih = (0, omega arith, sym e)
    go (inr t) ih = let (k, h, e) = ih t in (suc k, omega arith, e)

places-apart : (l : List ℕ) → Distinct l → (i k : ℕ) → i < length l → k < length l → get_or l i 0 ≡ get_or l k 0 → i ≡ k
places-apart [] d i k a b e = absurd (omega arith)
places-apart (y ∷ l) d zero zero a b e = refl
places-apart (y ∷ l) d zero (suc k) a b e = absurd (d.0 (Memᴰ.cast e (at_place l k (omega arith))))
places-apart (y ∷ l) d (suc i) zero a b e = absurd (d.0 (Memᴰ.cast (sym e) (at_place l i (omega arith))))
places-apart (y ∷ l) d (suc i) (suc k) a b e = ap suc (places-apart l d.1 i k (omega arith) (omega arith) e)

-- the column of a step, by its place from 0
pub column-at : (order : List ℕ) (k : ℕ) → column_at_step order (suc k) ≡ get_or order k 0
unfolding column_at_step
column-at order k = ap (λ i. get_or order i 0) (omega arith)

-- column x has a step after step a and no later than step b
pub record StepOf (order : List ℕ) (x a b : ℕ) : Type 0 where
  pub step : ℕ
  pub behind : a < step
  pub within : step ≤ b
  pub is : column_at_step order step ≡ x

-- the steps after a up to b are a slice of the order
pub slice-steps : (order : List ℕ) (x a b : ℕ) → b ≤ length order → (x ∈ slice a b order) ↔ StepOf order x a b
unfolding column_at_step
slice-steps order x a b h = (from, into)
  where
    at : (k : ℕ) → a + k < b → get_or (slice a b order) k 0 ≡ get_or order (a + k) 0
    at k l = get_or-drop a (take b order) k 0 ∙ get_or-take b order (a + k) 0 l

    from : x ∈ slice a b order → StepOf order x a b
    from m =
        let (k, l, e) = place_of (slice a b order) m in
        let u : a + k < b = omega (arith, length-slice a b order h) in
        record { step = suc (a + k); behind = omega arith; within = omega arith; is = column-at order (a + k) ∙ (sym (at k u) ∙ e) }

    into : StepOf order x a b → x ∈ slice a b order
    into s =
        let k = s.step - 1 - a in
        let u : a + k < b = omega arith in
        let e : a + k ≡ s.step - 1 = omega arith in
        Memᴰ.cast (sym (at k u ∙ (ap (λ i. get_or order i 0) e ∙ s.is))) (at_place (slice a b order) k (omega (arith, length-slice a b order h)))

-- a column of the order has a step
pub step_of : (order : List ℕ) (x : ℕ) → x ∈ order → StepOf order x 0 (length order)
step_of order x m = (slice-steps order x 0 (length order) (omega arith)).0 (rw (take-length order) m)

-- the column of a step is in the order
pub column-in : (order : List ℕ) (s : ℕ) → 1 ≤ s → s ≤ length order → column_at_step order s ∈ order
unfolding column_at_step
column-in order s l u = at_place order (s - 1) (omega arith)

-- a column has no other step
pub one-step : (order : List ℕ) → Distinct order → (s k : ℕ) → 1 ≤ s → s ≤ length order → 1 ≤ k → k ≤ length order
    → column_at_step order s ≡ column_at_step order k → s ≡ k
unfolding column_at_step
one-step order d s k a b c f e = omega (arith, places-apart order d (s - 1) (k - 1) (omega arith) (omega arith) e)

pub slice-distinct : (l : List ℕ) (a b : ℕ) → Distinct l → Distinct (slice a b l)
slice-distinct l a b d =
    let earlier = (distinct_append (take b l) (drop b l) (rw (take-append-drop b l) d)).0 in
    (distinct_append (take a (take b l)) (slice a b l) (rw (take-append-drop a (take b l)) earlier)).1
