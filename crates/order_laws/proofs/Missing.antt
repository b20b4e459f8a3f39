-- Proves facts of the test whether a column's parent is still to be done: a root's parent never is, and doing one more column changes the
-- test for its own children alone.
-- Assumes nothing.
use Prim.Native.Nat.{ℕ, zero, suc, ◌<◌}
use mathlib.Core.Path.{◌≡◌, refl}
use mathlib.Core.Logic.{◌≢◌}
use mathlib.Core.Bool.{true, false}
use mathlib.Core.List.{List, ◌∷◌}
use native.Mathlib.Omega.{arith}
use borrow.Author.Tests.{ne_eqb, not-true}
use Rattle.papers.specs.Lists.{◌∈◌, member}
use Rattle.list_laws.proofs.Tests.{true-false}
use Rattle.list_laws.proofs.Members.{member-into, member-out}
use Rattle.order_laws.specs.Stack.{missing}

pub missing-done : (done : List ℕ) (p : ℕ) → p ∈ done → missing done p ≡ false
unfolding missing
missing-done done zero m = refl
missing-done done (suc p) m = rw (member-into (suc p) done m)

pub missing-yes : (done : List ℕ) (p : ℕ) → 0 < p → ¬ (p ∈ done) → missing done p ≡ true
unfolding missing
missing-yes done zero h m = absurd (omega arith)
missing-yes done (suc p) h m = rw (member-out (suc p) done m)

pub missing-from : (done : List ℕ) (p : ℕ) → missing done p ≡ true → (0 < p) × (¬ (p ∈ done))
unfolding missing
missing-from done zero e = absurd (true-false e refl)
missing-from done (suc p) e = (omega arith, λ m. true-false (member-into (suc p) done m) (not-true (member (suc p) done) e))

pub missing-more : (done : List ℕ) (p j : ℕ) → p ≢ j → missing (j ∷ done) p ≡ missing done p
unfolding missing member
missing-more done zero j h = refl
missing-more done (suc p) j h = rw (ne_eqb (suc p) j h, member)
