-- Proves facts of t(r), the entries of r rows: each further row adds its own length, so t grows with r.
-- Assumes nothing.
use Prim.Native.Nat.{ℕ, suc, ◌+◌, ◌*◌, ◌/◌, ◌≤◌}
use mathlib.Core.Path.{◌≡◌, refl}
use native.Mathlib.Omega.{arith}
use native.Mathlib.Nat.{mul-le-mul}
use Rattle.papers.specs.Tree.{t}

pub t-is : (r : ℕ) → t r ≡ r * (r + 1) / 2
unfolding t
t-is r = refl

pub t-suc : (r : ℕ) → t (suc r) ≡ t r + suc r
unfolding t
t-suc r = omega arith

-- the product r(r + 1), before it is halved
pub product-grows : (a b : ℕ) → a ≤ b → a * (a + 1) ≤ b * (b + 1)
product-grows a b h = let k : a + 1 ≤ b + 1 = omega arith in mul-le-mul h k

pub t-grows : (a b : ℕ) → a ≤ b → t a ≤ t b
unfolding t
t-grows a b h = omega (arith, product-grows a b h)
