-- Proves that two runs of stores at different places may be done in either order.
-- Assumes nothing.
use Prim.Native.Nat.{ℕ, suc, ◌+◌, ◌≤◌}
use mathlib.Core.Path.{◌≡◌, refl, ap, ◌∙◌}
use mathlib.Core.Logic.{◌≢◌}
use mathlib.Core.List.{List, [], ◌∷◌}
use native.Mathlib.Omega.{arith}
use lib.ListN.{length, set}
use lib.Seq.{sets, set_comm}

-- a store behind a run
pub set-sets : (x l : List ℕ) (i k v : ℕ) → i + length x ≤ k → sets (set l k v) i x ≡ set (sets l i x) k v
set-sets [] l i k v h = refl
set-sets (y ∷ x) l i k v h =
    let n : k ≢ i = λ e. omega arith in
    ap (λ m. sets m (suc i) x) (set_comm l k i v y n) ∙ set-sets x (set l i y) (suc i) k v (omega arith)

-- a run behind a run
pub sets-comm : (y x l : List ℕ) (i k : ℕ) → i + length x ≤ k → sets (sets l k y) i x ≡ sets (sets l i x) k y
sets-comm [] x l i k h = refl
sets-comm (v ∷ y) x l i k h = sets-comm y x (set l k v) i (suc k) (omega arith) ∙ ap (λ m. sets m (suc k) y) (set-sets x l i k v h)
