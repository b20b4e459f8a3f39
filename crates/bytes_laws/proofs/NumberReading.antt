-- Proves that a written number is read back. Reading takes one more group if the byte says so, and stops at the first that does not.
-- Assumes nothing.
use Prim.Native.Nat.{ℕ, zero, suc, ◌+◌, ◌-◌, ◌*◌, ◌/◌, ◌%◌, ◌^◌, ◌<◌, ◌≤◌}
use mathlib.Core.Path.{◌≡◌, refl, sym, ap, ◌∙◌}
use mathlib.Core.Bool.{Bool, true, false}
use mathlib.Core.List.{List, ◌∷◌, ◌++◌}
use native.Mathlib.Omega.{arith}
use lib.ListN.{length, get_or, drop, length-drop}
use lib.Seq.{get_or-drop, drop-drop, drop_at}
use borrow.Author.Tests.{lt-ltb, le-ltb}
use Rattle.papers.specs.Bounds.{max_groups}
use Rattle.papers.specs.Numbers.{groups_of, bytes_of, over, last_group, read_from, number_read_from, Number}
use Rattle.papers.specs.declared.NumberFault.TheVariants.{Ended, TooLong}
use Rattle.std.specs.Prelude.{Ok, Err}
use Rattle.bytes_laws.proofs.Numbers.{Grouped, last, more, grouped, groups-small, groups-large}

-- ---- what is found at each kind of byte

pub read-end : (k : ℕ) (first : Bool) (s : List ℕ) (at : ℕ) → length s ≤ at → read_from k first s at ≡ Err Ended
unfolding read_from
read-end zero first s at h = rw (le-ltb at (length s) h, read_from)
read-end (suc k) first s at h = rw (le-ltb at (length s) h, read_from)

module _ (first : Bool) (s : List ℕ) (at : ℕ) (there : at < length s) where
  pub read-long : read_from 0 first s at ≡ Err TooLong
  unfolding read_from
  read-long = rw (lt-ltb at (length s) there, read_from)

  pub read-last : (k : ℕ) → get_or s at 0 < 128 → read_from (suc k) first s at ≡ last_group first (get_or s at 0) at
  unfolding read_from
  read-last k b = rw (lt-ltb at (length s) there, lt-ltb (get_or s at 0) 128 b, read_from)

  pub read_more : (k : ℕ) → 128 ≤ get_or s at 0 → read_from (suc k) first s at ≡ over (get_or s at 0 - 128) (read_from k false s (at + 1))
  unfolding read_from
  read_more k b = rw (lt-ltb at (length s) there, le-ltb (get_or s at 0) 128 b, read_from)

-- a last group may be anything if it is the first, else it is not 0
abbrev pub Shown : Bool → ℕ → Type 0
Shown true b = Unit {0}
Shown false b = 0 < b

pub shown-some : (first : Bool) (b : ℕ) → 0 < b → Shown first b
shown-some true b h = tt
shown-some false b h = h

pub last-shown : (first : Bool) (b at : ℕ) → Shown first b → last_group first b at ≡ Ok (b, at + 1)
unfolding last_group
last-shown true zero at h = refl
last-shown false zero at h = absurd (omega arith)
last-shown first (suc b) at h = refl

-- ---- a number is read back

-- the byte at a place, and the bytes behind it
pub record Stands (s : List ℕ) (at b : ℕ) (rest : List ℕ) : Type 0 where
  pub there : at < length s
  pub byte : get_or s at 0 ≡ b
  pub behind : drop (at + 1) s ≡ rest

pub stands : (s : List ℕ) (at b : ℕ) (rest : List ℕ) → drop at s ≡ b ∷ rest → Stands s at b rest
stands s at b rest e =
    let l : length (drop at s) ≡ suc (length rest) = ap length e in
    let q : at + 0 ≡ at = omega arith in
    record {
      there = omega (arith, length-drop at s);
      byte = rw (← q) (sym (get_or-drop at s 0 0) ∙ ap (λ (x : List ℕ). get_or x 0 0) e);
      behind = sym (drop-drop 1 at s) ∙ ap (λ (x : List ℕ). drop 1 x) e;
    }

-- behind the first byte of a list at a place comes the rest of the list
pub stands-behind : (s : List ℕ) (at : ℕ) (a rest : List ℕ) → drop at s ≡ a ++ rest → drop (at + length a) s ≡ rest
stands-behind s at a rest e = sym (drop-drop (length a) at s) ∙ ap (drop (length a)) e ∙ drop_at a rest (length a) refl

groups-back : {f x : ℕ} (first : Bool) (s : List ℕ) (at : ℕ) (rest : List ℕ) → Grouped f x → Shown first x → drop at s ≡ groups_of f x ++ rest
    → read_from (suc f) first s at ≡ Ok (x, at + length (groups_of f x))
unfolding over
groups-back {f} {x} first s at rest (last l) h e =
    let g = groups-small f x l in
    let w = stands s at x rest (rw g at e) in
    let b = w.byte in
    rw (g, read-last first s at w.there f (omega arith), b) (last-shown first x at h)
groups-back {x = x} first s at rest (more {f = f} l r) h e =
    let g = groups-large f x l in
    let w = stands s at (x % 128 + 128) (groups_of f (x / 128) ++ rest) (rw g at e) in
    let b = w.byte in
    let i = groups-back false s (at + 1) rest r (omega arith) w.behind in
    let v : x % 128 + 128 - 128 + 128 * (x / 128) ≡ x = omega arith in
    let q : at + 1 + length (groups_of f (x / 128)) ≡ at + suc (length (groups_of f (x / 128))) = omega arith in
    rw (g, read_more first s at w.there (suc f) (omega arith), b, i, v, q)

-- if the bytes at a place are those of a number, it is read, up to their end
pub read_back : (s : List ℕ) (at x : ℕ) (rest : List ℕ) → x < 2 ^ (7 * max_groups) → drop at s ≡ bytes_of x ++ rest
    → number_read_from s at ≡ Ok (x, at + length (bytes_of x))
unfolding number_read_from bytes_of
read_back s at x rest h e = groups-back true s at rest (grouped (max_groups - 1) x h) tt e

abbrev value_in : Number → ℕ
value_in (Ok found) = found.0
value_in (Err _) = 0

abbrev place_behind : Number → ℕ
place_behind (Ok found) = found.1
place_behind (Err _) = 0

-- equal readings have equal values and places
pub value_inj : {x y m n : ℕ} → ◌≡◌ {A = Number} (Ok (x, m)) (Ok (y, n)) → (x ≡ y) × (m ≡ n)
value_inj e = (ap value_in e, ap place_behind e)
