-- Parts of a list: each is a slice, has a number for each place, and is changed by a store at one of its places just there.
-- Assumes nothing.
use Prim.Native.Nat.{ℕ, zero, suc, ◌+◌, ◌-◌, ◌<◌, ◌≤◌}
use mathlib.Core.Path.{◌≡◌, sym, ap, ◌∙◌}
use mathlib.Core.List.{List, [], ◌∷◌}
use native.Mathlib.Omega.{arith}
use native.Mathlib.Numerals.{add-one}
use lib.ListN.{length, get_or, set, take, drop, length-drop}
use lib.Seq.{slice, take_all, take-nil, drop-cons, drop-set-add, take-set-lt, length-take-le, get_or-take, get_or-drop}
use Rattle.list_laws.specs.Parts.{part}

-- the two forms of a part
pub part_slice : (s e : ℕ) (l : List ℕ) → part s e l ≡ slice s e l
part_slice zero e l = let q : e - 0 ≡ e = omega arith in rw q
part_slice (suc s) zero l = let q : 0 - suc s ≡ 0 = omega arith in rw q
part_slice (suc s) (suc e) [] = take-nil (suc e - suc s)
part_slice (suc s) (suc e) (x ∷ l) = let q : suc e - suc s ≡ e - s = omega arith in rw q (part_slice s e l)

-- what is left of a list is the part to its end
pub part-last : (l : List ℕ) (s : ℕ) → part s (length l) l ≡ drop s l
part-last l s = take_all (length l - s) (drop s l) (rw length-drop (omega arith))

pub part_length : (s e : ℕ) (l : List ℕ) → s ≤ e → e ≤ length l → length (part s e l) ≡ e - s
part_length s e l h g = length-take-le (e - s) (drop s l) (rw length-drop (omega arith))

pub part_at : (s e : ℕ) (l : List ℕ) (i : ℕ) → s + i < e → get_or (part s e l) i 0 ≡ get_or l (s + i) 0
part_at s e l i h = get_or-take (e - s) (drop s l) i 0 (omega arith) ∙ get_or-drop s l i 0

-- a part from one place further on lacks its first number
pub part-rest : (s e : ℕ) (l : List ℕ) → s < e → e ≤ length l → part (s + 1) e l ≡ drop 1 (part s e l)
part-rest s e l h g =
    let k : e - s ≡ suc (e - (s + 1)) = omega arith in
    rw (k, drop-cons l s 0 (omega arith), add-one s)

-- a part of what is the same up to its end
pub part_same : (s e : ℕ) (l m : List ℕ) → take e l ≡ take e m → part s e l ≡ part s e m
part_same s e l m h = part_slice s e l ∙ (ap (drop s) h ∙ sym (part_slice s e m))

-- a store in a part
pub part-set : (s e i v : ℕ) (l : List ℕ) → s + i < e → part s e (set l (s + i) v) ≡ set (part s e l) i v
part-set s e i v l h = ap (take (e - s)) (drop-set-add s l i v) ∙ take-set-lt (e - s) (drop s l) i v (omega arith)
