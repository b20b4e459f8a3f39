-- Proves that the steps of a plan can be taken apart into their columns and their pops, and put together again.
-- Assumes nothing.
use Prim.Native.Nat.{ℕ, ◌-◌, ◌≤◌}
use mathlib.Core.Path.{◌≡◌, refl, ap}
use mathlib.Core.List.Memᴰ
use mathlib.Core.List.{List, [], ◌∷◌, map}
use native.Mathlib.Omega.{arith}
use Rattle.papers.specs.Lists.{◌∈◌}
use Rattle.papers.specs.Plan.{columns_in, pops_in, StepsFit}

-- the columns of steps that were made of columns with their pops
pub columns-made : (pops : ℕ → ℕ) (order : List ℕ) → columns_in (map (λ j. (j, pops j)) order) ≡ order
columns-made pops [] = refl
columns-made pops (j ∷ js) = ap (λ l. j ∷ l) (columns-made pops js)

pub pops-made : (pops : ℕ → ℕ) (order : List ℕ) → pops_in (map (λ j. (j, pops j)) order) ≡ map pops order
pops-made pops [] = refl
pops-made pops (j ∷ js) = ap (λ l. pops j ∷ l) (pops-made pops js)

-- steps are in their ranges if their columns are and their pops are those of the columns
pub steps-fit : (n : ℕ) (pops : ℕ → ℕ) (steps : List (ℕ × ℕ)) → ((j : ℕ) → j ∈ columns_in steps → (1 ≤ j) × (j ≤ n) × (pops j ≤ n - 1))
    → pops_in steps ≡ map pops (columns_in steps)
    → StepsFit n steps
steps-fit n pops [] h e = tt
steps-fit n pops (x ∷ xs) h e =
    let (l, u, few) = h x.0 (Memᴰ.head refl) in
    let own : x.1 ≡ pops x.0 = cc in
    let rest : pops_in xs ≡ map pops (columns_in xs) = cc in
    ((l, u, omega arith), steps-fit n pops xs (λ j m. h j (Memᴰ.tail m)) rest)
