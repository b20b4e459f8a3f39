-- Proves the groups of a number: one below 128, else the low seven bits and the groups of the rest. By induction on the groups that may
-- follow, each group is a byte, and m binary digits take m / 7 groups, rounded up, but at least one.
-- Assumes nothing.
use Prim.Native.Nat.{ℕ, zero, suc, ◌+◌, ◌-◌, ◌*◌, ◌/◌, ◌%◌, ◌^◌, ◌<◌, ◌≤◌, max}
use mathlib.Core.Path.{◌≡◌, refl, sym, ap, ◌∙◌}
use mathlib.Core.Logic.{◌⊎◌, inl, inr}
use mathlib.Core.List.{List, [], ◌∷◌, ◌++◌, append_assoc}
use native.Mathlib.Omega.{arith}
use lib.Count.{count_leading_zeros, leading_length}
use lib.ListN.{length, get_or}
use lib.Pow.{pow-add, pow_mono}
use borrow.Author.Tests.{lt-ltb, le-ltb}
use Rattle.list_laws.proofs.Tests.{below_or}
use Rattle.papers.specs.Bounds.{max_groups}
use Rattle.papers.specs.Numbers.{groups_of, bytes_of, encode}

-- each number of the list is below b
abbrev pub Within : ℕ → List ℕ → Type 0
Within b [] = Unit {0}
Within b (x ∷ xs) = (x < b) × Within b xs

-- the number at any place of such a list is below b too
pub within-at : (b : ℕ) (l : List ℕ) → 0 < b → Within b l → (i : ℕ) → get_or l i 0 < b
within-at b [] p w i = p
within-at b (x ∷ xs) p w zero = w.0
within-at b (x ∷ xs) p w (suc i) = within-at b xs p w.1 i

-- a number below 128 is one group
pub groups-small : (f x : ℕ) → x < 128 → groups_of f x ≡ x ∷ []
unfolding groups_of
groups-small zero x h = refl
groups-small (suc f) x h = rw (lt-ltb x 128 h, groups_of)

-- a number from 128 on is its low seven bits, and the groups of the rest
pub groups-large : (f x : ℕ) → 128 ≤ x → groups_of (suc f) x ≡ (x % 128 + 128) ∷ groups_of f (x / 128)
unfolding groups_of
groups-large f x h = rw (le-ltb x 128 h, groups_of)

-- x has at most f groups after its first
pub data Grouped : ℕ → ℕ → Type 0 where
  last : {f x : ℕ} → x < 128 → Grouped f x
  more : {f x : ℕ} → 128 ≤ x → Grouped f (x / 128) → Grouped (suc f) x

-- one more group gives seven more bits
seven-more : (f : ℕ) → 2 ^ (7 * suc (suc f)) ≡ 128 * 2 ^ (7 * suc f)
seven-more f = ap (λ (n : ℕ). 2 ^ n) (omega arith) ∙ pow-add 2 7 (7 * suc f)

-- x has at most f groups after its first exactly when it is below 2 ^ (7 * suc f)
pub grouped : (f x : ℕ) → x < 2 ^ (7 * suc f) → Grouped f x
grouped zero x h = last h
grouped (suc f) x h = go (below_or x 128) (grouped f (x / 128) (let e = seven-more f in omega arith))
  where
    go : (x < 128) ⊎ (128 ≤ x) → Grouped f (x / 128) → Grouped (suc f) x
    go (inl l) g = last l
    go (inr l) g = more l g

pub grouped-below : {f x : ℕ} → Grouped f x → x < 2 ^ (7 * suc f)
grouped-below {f} (last l) = let p : 2 ^ 7 ≤ 2 ^ (7 * suc f) = pow_mono {i = 7} {j = 7 * suc f} (omega arith) in omega arith
grouped-below (more {f = f} l g) = let i = grouped-below g in let e = seven-more f in omega arith

-- a number has at least one group, and at most f after the first
pub groups-length : (f x : ℕ) → (0 < length (groups_of f x)) × (length (groups_of f x) ≤ suc f)
groups-length zero x = unfold groups_of in (omega arith, omega arith)
groups-length (suc f) x = go (below_or x 128) (groups-length f (x / 128))
  where
    go : (x < 128) ⊎ (128 ≤ x) → (0 < length (groups_of f (x / 128))) × (length (groups_of f (x / 128)) ≤ suc f)
        → (0 < length (groups_of (suc f) x)) × (length (groups_of (suc f) x) ≤ suc (suc f))
    go (inl l) i = rw (groups-small (suc f) x l) (omega arith, omega arith)
    go (inr l) i = rw (groups-large f x l) (omega arith, omega arith)

-- ---- the count of groups, from the count of binary digits

few-digits : (m x : ℕ) → 2 ^ m ≤ 2 * x + 1 → x < 128 → m ≤ 7
few-digits m x h l = go (below_or 7 m)
  where
    go : (7 < m) ⊎ (m ≤ 7) → m ≤ 7
    go (inl w) = let p : 2 ^ 8 ≤ 2 ^ m = pow_mono w in omega arith
    go (inr w) = w

many-digits : (m x : ℕ) → x < 2 ^ m → 128 ≤ x → 7 < m
many-digits m x h l = go (below_or 7 m)
  where
    go : (7 < m) ⊎ (m ≤ 7) → 7 < m
    go (inl w) = w
    go (inr w) = let p : 2 ^ m ≤ 2 ^ 7 = pow_mono w in omega arith

-- the groups of a number of m binary digits
groups-of-digits : {f x : ℕ} (m : ℕ) → Grouped f x → x < 2 ^ m → 2 ^ m ≤ 2 * x + 1 → length (groups_of f x) ≡ max 1 ((m + 6) / 7)
groups-of-digits {f} {x} m (last l) h g = let s = few-digits m x g l in rw (groups-small f x l) (omega arith)
groups-of-digits {x = x} m (more {f = f} l r) h g =
    let s = many-digits m x h l in
    let e : 2 ^ m ≡ 2 ^ 7 * 2 ^ (m - 7) = ap (λ (n : ℕ). 2 ^ n) (omega arith) ∙ pow-add 2 7 (m - 7) in
    let i = groups-of-digits (m - 7) r (omega arith) (omega arith) in
    rw (groups-large f x l) (omega arith)

-- ---- with the paper's bound on groups

-- a number has at least one byte, and at most the bound
pub bytes-length : (x : ℕ) → (0 < length (bytes_of x)) × (length (bytes_of x) ≤ max_groups)
unfolding bytes_of
bytes-length x = groups-length (max_groups - 1) x

-- the byte count of a number, from the leading zeros of its w bits
pub count-of-zeros : (w x z : ℕ) → x < 2 ^ w → x < 2 ^ (7 * max_groups) → z ≡ count_leading_zeros w x
    → (z ≤ w) × (length (bytes_of x) ≡ max 1 ((w - z + 6) / 7))
unfolding bytes_of
count-of-zeros w x z f h e =
    let (m, d, u, l) = leading_length w x f in
    let c = groups-of-digits m (grouped (max_groups - 1) x h) u l in
    (omega arith, omega arith)

-- ---- numbers one after the other

-- the bytes of more numbers come behind those of the first ones
pub encode-append : (xs ys : List ℕ) → encode (xs ++ ys) ≡ encode xs ++ encode ys
unfolding encode
encode-append [] ys = refl
encode-append (x ∷ xs) ys = rw (encode-append xs ys) (sym (append_assoc (bytes_of x) (encode xs) (encode ys)))
