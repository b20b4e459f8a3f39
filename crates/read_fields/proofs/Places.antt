-- Proves bounds of places and counts as machine numbers, which code proofs cite by name.
-- Assumes nothing.
use Prim.Native.Nat.{ℕ, ◌+◌, ◌-◌, ◌*◌, ◌^◌, ◌<◌, ◌≤◌}
use mathlib.Core.Path.{◌≡◌}
use native.Mathlib.Nat.{lt_of_le_of_lt}
use native.Mathlib.Omega.{arith}
use mir.Facts.{Fits-of_lt}
use mir.Syntax.{w64}
use mir.Val.{Fits}

-- nothing is left
pub none_left : {x : ℕ} → x ≤ 0 → x ≡ 0
none_left h = omega arith

-- a place inside a slice, and the one behind it
module _ {l : ℕ} (machine : l < 2 ^ 64) where
  pub inside-fits : {k : ℕ} → k ≤ l → Fits w64 k
  inside-fits h = Fits-of_lt (lt_of_le_of_lt h machine)

  pub next_fits : {i : ℕ} → i < l → Fits w64 (i + 1)
  next_fits {i} h = let e : i + 1 ≤ l = omega arith in inside-fits e

-- the bytes before a place of a slice of numbers of 32 bits
pub bytes_fit : {i l : ℕ} → i < l → l * 4 < 2 ^ 63 → Fits w64 (i * 4)
bytes_fit {i} h m = let e : i * 4 < 2 ^ 64 = omega arith in Fits-of_lt e

-- the next of m places from `at` on, all of them before the end
module _ (at : ℕ) {i m l : ℕ} (h : i < m) (room : m ≤ l - at) where
  pub before-end : at + i < l
  before-end = omega arith

  pub count_fits : l < 2 ^ 64 → Fits w64 (i + 1)
  count_fits machine = let e : i < l = omega arith in next_fits machine e
