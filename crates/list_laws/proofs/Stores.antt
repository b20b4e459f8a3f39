-- Proves how stores into a lent slice combine: one run of stores behind another, a run at the start of zeros, and lists one behind the
-- other. A run of stores is the list that it leaves (sets-eq), so each law is one about take, drop and ++.
-- Assumes nothing.
use Prim.Native.Nat.{ℕ, zero, suc, ◌+◌, ◌-◌, ◌<◌, ◌≤◌}
use mathlib.Core.Path.{◌≡◌, refl, sym, ap, ◌∙◌}
use mathlib.Core.List.{List, [], ◌∷◌, ◌++◌, append_assoc, append-nil}
use native.Mathlib.Omega.{arith}
use lib.ListN.{length, get_or, set, take, drop, replicate, length-append, length-replicate}
use lib.Seq.{sets, sets-eq, set-set, set_comm, take_at}
use Rattle.papers.specs.Lists.{zeros, then_zeros, flat, starts_counted_from}

-- storing one list behind another is storing both at once
pub sets-append : (x l : List ℕ) (i : ℕ) (y : List ℕ) → sets l i (x ++ y) ≡ sets (sets l i x) (i + length x) y
sets-append [] l i y = let e : i + 0 ≡ i = omega arith in rw e
sets-append (v ∷ x) l i y = let e : i + suc (length x) ≡ suc i + length x = omega arith in rw e (sets-append x (set l i v) (suc i) y)

-- one more store: if m holds x from i on and v is stored behind it, m holds both
pub sets_more : (x l : List ℕ) (i v at : ℕ) {m m' : List ℕ} → m ≡ sets l i x → m' ≡ set m at v → at ≡ i + length x → m' ≡ sets l i (x ++ (v ∷ []))
sets_more x l i v at e f g = rw (sets-append x l i (v ∷ []), ← g, ← e) f

drop-replicate : (i n v : ℕ) → drop i (replicate n v) ≡ replicate (n - i) v
drop-replicate zero n v = let e : n - 0 ≡ n = omega arith in rw e
drop-replicate (suc i) zero v = let e : 0 - suc i ≡ 0 = omega arith in rw e
drop-replicate (suc i) (suc n) v = let e : suc n - suc i ≡ n - i = omega arith in rw e (drop-replicate i n v)

-- each number of a cleared slice is 0
pub zero-at : (l : List ℕ) (p : ℕ) → get_or (zeros l) p 0 ≡ 0
zero-at [] p = refl
zero-at (x ∷ l) zero = refl
zero-at (x ∷ l) (suc p) = zero-at l p

-- a result stored at the start of a cleared slice gives the result, then zeros
pub sets-zeros : (xs l : List ℕ) → length xs ≤ length l → sets (zeros l) 0 xs ≡ then_zeros xs l
unfolding then_zeros
sets-zeros xs l h =
    let f : 0 + length xs ≤ length (zeros l) = rw length-replicate (omega arith) in
    let z : 0 + length xs ≡ length xs = omega arith in
    rw (sets-eq xs (zeros l) 0 f, z, drop-replicate (length xs) (length l) 0)

-- the slice keeps its length
pub length-then-zeros : (xs l : List ℕ) → length xs ≤ length l → length (then_zeros xs l) ≡ length l
unfolding then_zeros
length-then-zeros xs l h = rw (length-append xs (replicate (length l - length xs) 0), length-replicate) (omega arith)

-- the first k numbers of a slice that holds a result of k numbers are the result
pub take-then-zeros : {k : ℕ} (xs l : List ℕ) → length xs ≡ k → take k (then_zeros xs l) ≡ xs
unfolding then_zeros
take-then-zeros {k} xs l e = take_at xs (replicate (length l - length xs) 0) k e

-- a run of stores at the start gives what was stored
pub stored-at-start : (l v : List ℕ) → length v ≤ length l → take (length v) (sets l 0 v) ≡ v
stored-at-start l v h = rw (sets-eq v l 0 (omega arith)) (take_at v (drop (0 + length v) l) (length v) refl)

-- a store before a run makes the run longer
set-sets : (ws l : List ℕ) (i v k : ℕ) → i < k → set (sets l k ws) i v ≡ sets (set l i v) k ws
set-sets [] l i v k h = refl
set-sets (w ∷ ws) l i v k h =
    set-sets ws (set l k w) i v (suc k) (omega arith) ∙ ap (λ (m : List ℕ). sets m (suc k) ws) (set_comm l k i w v (λ e. omega arith))

-- a run stored over one that is no longer replaces it
pub sets_over : (ws vs l : List ℕ) (i : ℕ) → length ws ≤ length vs → sets (sets l i ws) i vs ≡ sets l i vs
sets_over [] vs l i h = refl
sets_over (w ∷ ws) [] l i h = absurd (omega arith)
sets_over (w ∷ ws) (v ∷ vs) l i h =
    rw (set-sets ws (set l i w) i v (suc i) (omega arith), set-set l i w v) (sets_over ws vs (set l i v) (suc i) (omega arith))

-- ---- lists laid one behind the other

-- the numbers of more lists come behind those of the first ones
pub flat_append : (a b : List (List ℕ)) → flat (a ++ b) ≡ flat a ++ flat b
unfolding flat
flat_append [] b = refl
flat_append (l ∷ a) b = rw (flat_append a b) (sym (append_assoc l (flat a) (flat b)))

-- the numbers of one more list come behind
pub flat-more : (a : List (List ℕ)) (l : List ℕ) → flat (a ++ (l ∷ [])) ≡ flat a ++ l
unfolding flat
flat-more a l = flat_append a (l ∷ []) ∙ ap (λ (k : List ℕ). flat a ++ k) (append-nil l)

-- the next list begins where the last one ends
pub starts_more : (t : ℕ) (a : List (List ℕ)) (l : List ℕ) → starts_counted_from t (a ++ (l ∷ [])) ≡ starts_counted_from t a
    ++ ((t + length (flat a) + length l) ∷ [])
unfolding starts_counted_from flat
starts_more t [] l = let e : t + 0 + length l ≡ t + length l = omega arith in rw e
starts_more t (k ∷ a) l =
    let e : t + length (k ++ flat a) + length l ≡ t + length k + length (flat a) + length l = omega (arith, length-append k (flat a)) in
    rw (e, starts_more (t + length k) a l)

-- there is a start for each list, and one for the end
pub length-starts : (t : ℕ) (a : List (List ℕ)) → length (starts_counted_from t a) ≡ length a + 1
unfolding starts_counted_from
length-starts t [] = refl
length-starts t (k ∷ a) = let i = length-starts (t + length k) a in omega arith

-- a first start of 0 may be stored before the others: they are stored over it
pub starts-again : (starts : List ℕ) (lists : List (List ℕ)) → sets (set starts 0 0) 0 (starts_counted_from 0 lists)
    ≡ sets starts 0 (starts_counted_from 0 lists)
unfolding starts_counted_from
starts-again starts [] = set-set starts 0 0 0
starts-again starts (l ∷ lists) = ap (λ (s : List ℕ). sets s 1 (starts_counted_from (0 + length l) lists)) (set-set starts 0 0 0)
