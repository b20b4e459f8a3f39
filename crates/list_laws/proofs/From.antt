-- Proves that clearing the places from one on keeps those before it; so a result at the start of a slice is then followed by zeros.
-- Assumes nothing.
use Prim.Native.Nat.{ℕ, ◌+◌, ◌-◌, ◌≤◌}
use mathlib.Core.Path.{◌≡◌}
use mathlib.Core.List.{List, [], ◌++◌, append-nil}
use native.Mathlib.Omega.{arith}
use lib.ListN.{length, take, drop, length-take, length-drop, drop_of_length-le}
use lib.Seq.{sets, sets-eq, take_at, drop_at}
use Rattle.papers.specs.Lists.{zeros, then_zeros}
use Rattle.list_laws.specs.From.{zeros_from}

-- clears the part of so many places from k on, which ends the slice
pub cleared-from : (k : ℕ) (l : List ℕ) {rest : List ℕ} → k ≤ length l → rest ≡ zeros (take (length l - k) (drop k l))
    → take k l ++ (rest ++ drop (length l - k) (drop k l)) ≡ zeros_from k l
unfolding zeros_from
cleared-from k l {rest} h z =
    let last : drop (length l - k) (drop k l) ≡ [] = drop_of_length-le (drop k l) {i = length l - k} (rw length-drop (omega arith)) in
    let many : length (take (length l - k) (drop k l)) ≡ length (drop k l) = omega (arith, length-take (length l - k) (drop k l), length-drop k l) in
    rw (last, append-nil rest, z, many)

-- once the places behind it are cleared, a result of k numbers at the start is followed by zeros
pub stored-from : {k : ℕ} (xs l : List ℕ) → length xs ≡ k → k ≤ length l → zeros_from k (sets l 0 xs) ≡ then_zeros xs l
unfolding zeros_from then_zeros
stored-from {k} xs l e h =
    let fits : 0 + length xs ≤ length l = omega arith in
    let z : 0 + length xs ≡ k = omega arith in
    let m : length (drop k l) ≡ length l - length xs = omega (arith, length-drop k l) in
    rw (sets-eq xs l 0 fits, z, take_at xs (drop k l) k e, drop_at xs (drop k l) k e, m)
