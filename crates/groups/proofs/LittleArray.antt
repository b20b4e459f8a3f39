-- Proves that the little array holds each byte of a number at the byte's own place.
-- Assumes nothing.
use Prim.Native.Nat.{ℕ, ◌+◌, ◌<◌, ◌≤◌}
use mathlib.Core.Path.{◌≡◌}
use mathlib.Core.List.{List}
use native.Mathlib.Omega.{arith}
use lib.ListN.{length, get_or, drop, replicate, length-replicate, get_or-append}
use lib.Seq.{sets, sets-eq}

pub array-byte : (bytes : List ℕ) (n i : ℕ) {array : List ℕ} → array ≡ sets (replicate n 0) 0 bytes → length bytes ≤ n → i < length bytes
    → get_or array i 0 ≡ get_or bytes i 0
array-byte bytes n i e f h =
    let g : 0 + length bytes ≤ length {A = ℕ} (replicate n 0) = rw length-replicate (omega arith) in
    rw (e, sets-eq bytes (replicate n 0) 0 g) (get_or-append bytes (drop (0 + length bytes) (replicate n 0)) 0 i h)
