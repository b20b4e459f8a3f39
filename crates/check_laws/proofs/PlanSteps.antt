-- Proves that a plan with every number in its range has n steps, of columns from 1 to n.
-- Assumes nothing.
use Prim.Native.Nat.{ℕ, ◌≤◌}
use mathlib.Core.Path.{◌≡◌, ◌∙◌}
use mathlib.Core.Logic.{◌⊎◌, inl, inr}
use mathlib.Core.List.Memᴰ
use mathlib.Core.List.{List, [], ◌∷◌}
use lib.ListN.{length, length-map}
use Rattle.papers.specs.Lists.{◌∈◌}
use Rattle.papers.specs.Plan.{Plan, columns_in, StepsFit, Fit}

-- k steps, of columns 1..n
abbrev pub Steps : ℕ → ℕ → List ℕ → Type 0
Steps n k order = (length order ≡ k) × ((x : ℕ) → x ∈ order → (1 ≤ x) × (x ≤ n))

-- the columns of steps in their ranges are from 1 to n
columns-within : (n : ℕ) (steps : List (ℕ × ℕ)) → StepsFit n steps → (j : ℕ) → j ∈ columns_in steps → (1 ≤ j) × (j ≤ n)
columns-within n [] f j m = absurd (Memᴰ.not-nil m)
columns-within n (x ∷ xs) f j m = go (Memᴰ.cases_cons m) (λ k. columns-within n xs f.1 j k)
  where
    go : (j ≡ x.0) ⊎ (j ∈ columns_in xs) → (j ∈ columns_in xs → (1 ≤ j) × (j ≤ n)) → (1 ≤ j) × (j ≤ n)
    go (inl e) ih = rw e (f.0.0, f.0.1)
    go (inr k) ih = ih k

-- a plan in its ranges has n steps, of columns 1..n
pub fit-steps : {n : ℕ} {plan : Plan} → Fit n plan → Steps n n (columns_in plan.steps)
fit-steps {n} {plan} fit = (length-map plan.steps (λ x. x.0) ∙ fit.all-steps, columns-within n plan.steps fit.steps)
