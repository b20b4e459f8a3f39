-- Proves that halving a number takes off one level, and that a number below 2 ^ k has at most k levels. This bounds how deep calls nest (Nesting).
-- Assumes nothing.
use Prim.Native.Nat.{ℕ, zero, suc, ◌+◌, ◌*◌, ◌/◌, ◌^◌, ◌<◌, ◌≤◌}
use mathlib.Core.Path.{◌≡◌, refl}
use mathlib.Core.Logic.{◌≢◌}
use native.Mathlib.Omega.{arith}
use borrow.Author.Tests.{ne_eqb}
use Rattle.walk.specs.Levels.{binary_digits, levels}

digits-zero : (f : ℕ) → binary_digits f 0 ≡ 0
unfolding binary_digits
digits-zero zero = refl
digits-zero (suc f) = refl

digits-suc : (f x : ℕ) → 0 < x → binary_digits (suc f) x ≡ suc (binary_digits f (x / 2))
unfolding binary_digits
digits-suc f x h = let n : x ≢ 0 = λ e. omega arith in rw (ne_eqb x 0 n, binary_digits)

digits-mono : (f g x y : ℕ) → f ≤ g → x ≤ y → binary_digits f x ≤ binary_digits g y
unfolding binary_digits
digits-mono zero zero x y p q = omega arith
digits-mono zero (suc g) x y p q = omega arith
digits-mono (suc f) zero x y p q = absurd (omega arith)
digits-mono (suc f) (suc g) zero y p q = rw (digits-zero (suc f)) (omega arith)
digits-mono (suc f) (suc g) (suc x) y p q =
    let i = digits-mono f g (suc x / 2) (y / 2) (omega arith) (omega arith) in
    rw (digits-suc f (suc x) (omega arith), digits-suc g y (omega arith)) (omega arith)

pub levels-mono : (x y : ℕ) → x ≤ y → levels x ≤ levels y
unfolding levels
levels-mono x y h = digits-mono x y x y h h

-- a number of at most half of y has a level less
pub levels-half : (x y : ℕ) → 0 < y → x + x ≤ y → levels x < levels y
unfolding levels
levels-half x zero l h = absurd (omega arith)
levels-half x (suc y) l h =
    let i = digits-mono x y x (suc y / 2) (omega arith) (omega arith) in
    rw (digits-suc y (suc y) (omega arith)) (omega arith)

digits-none : (x : ℕ) → binary_digits 0 x ≡ 0
unfolding binary_digits
digits-none x = refl

digits-few : (k f x : ℕ) → x < 2 ^ k → binary_digits f x ≤ k
digits-few zero f x h = let e : x ≡ 0 = omega arith in rw (e, digits-zero f) (omega arith)
digits-few (suc k) zero x h = rw (digits-none x) (omega arith)
digits-few (suc k) (suc f) zero h = rw (digits-zero (suc f)) (omega arith)
digits-few (suc k) (suc f) (suc x) h =
    let e : 2 ^ suc k ≡ 2 * 2 ^ k = omega arith in
    let i = digits-few k f (suc x / 2) (omega arith) in
    rw (digits-suc f (suc x) (omega arith)) (omega arith)

-- at most k levels below 2 ^ k
pub levels-few : (k x : ℕ) → x < 2 ^ k → levels x ≤ k
unfolding levels
levels-few k x h = digits-few k x x h
