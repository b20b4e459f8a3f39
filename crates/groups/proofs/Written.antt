-- Proves how a number is written group by group: the groups left, stored from the next place on, make the whole. A turn stores the low group, and the
-- end stores the last group.
-- Assumes nothing.
use Prim.Native.Nat.{ℕ, suc, ◌+◌, ◌-◌, ◌/◌, ◌%◌, ◌<◌, ◌≤◌}
use mathlib.Core.Path.{◌≡◌, refl}
use mathlib.Core.List.{List, [], ◌∷◌}
use native.Mathlib.Omega.{arith}
use native.Mathlib.Numerals.{add-one}
use lib.ListN.{length, set, length-set}
use lib.Seq.{sets}
use Rattle.papers.specs.Bounds.{max_groups}
use Rattle.papers.specs.Numbers.{bytes_of, groups_of}
use Rattle.bytes_laws.proofs.Numbers.{Grouped, last, more, grouped, groups-small, groups-large, groups-length}
use Rattle.groups.specs.Fits.{FitsGroups}

-- below 128 a number is its one byte
pub bytes_small : (x : ℕ) → x < 128 → bytes_of x ≡ x ∷ []
unfolding bytes_of
bytes_small x h = groups-small (max_groups - 1) x h

-- below 128 times 128 a number has at most two bytes
pub bytes-two : (x : ℕ) → 128 ≤ x → x < 16384 → bytes_of x ≡ (x % 128 + 128) ∷ (x / 128) ∷ []
unfolding bytes_of
bytes-two x l h = rw (groups-large (max_groups - 2) x l, groups-small (max_groups - 2) (x / 128) (omega arith))

-- from 128 on a number has more than one byte
pub bytes-large : (x : ℕ) → 128 ≤ x → 1 < length (bytes_of x)
unfolding bytes_of
bytes-large x h = rw (groups-large (max_groups - 2) x h) (omega (arith, groups-length (max_groups - 2) (x / 128)))

-- of x, whose bytes go into d₀ from `at` on, v is left, and its groups go into d from i on
pub record Left (d₀ : List ℕ) (at x : ℕ) (d : List ℕ) (v i : ℕ) : Type 0 where
  pub groups : ℕ
  pub few : Grouped groups v
  pub place : i + length (groups_of groups v) ≡ at + length (bytes_of x)
  pub stored : sets d i (groups_of groups v) ≡ sets d₀ at (bytes_of x)
  pub long : length d ≡ length d₀

pub written_start : (d : List ℕ) (at x : ℕ) → FitsGroups x → Left d at x d x at
unfolding bytes_of
written_start d at x h = record { groups = max_groups - 1; few = grouped (max_groups - 1) x h; place = refl; stored = refl; long = refl }

-- a group is left, so the next group's place is one of x's places
pub inside : {d₀ : List ℕ} {at x : ℕ} {d : List ℕ} {v i : ℕ} → Left d₀ at x d v i → i < at + length (bytes_of x)
inside {v = v} l = omega (arith, groups-length l.groups v, l.place)

-- stores the low group
pub turn : {d₀ : List ℕ} {at x : ℕ} {d : List ℕ} {v i : ℕ} → Left d₀ at x d v i → 128 ≤ v → Left d₀ at x (set d i (v % 128 + 128)) (v / 128) (i + 1)
turn {d₀} {at} {x} {d} {v} {i} l h = go l.few l.place l.stored
  where
    go : {f : ℕ} → Grouped f v → i + length (groups_of f v) ≡ at + length (bytes_of x) → sets d i (groups_of f v) ≡ sets d₀ at (bytes_of x)
        → Left d₀ at x (set d i (v % 128 + 128)) (v / 128) (i + 1)
    go (last s) p q = absurd (omega arith)
    go (more {f = f} b r) p q =
        let p' : i + suc (length (groups_of f (v / 128))) ≡ at + length (bytes_of x) = rw (groups-large f v h) at p in
        let q' : sets (set d i (v % 128 + 128)) (suc i) (groups_of f (v / 128)) ≡ sets d₀ at (bytes_of x) = rw (groups-large f v h) at q in
        record { groups = f; few = r; place = omega arith; stored = rw add-one q'; long = rw length-set l.long }

-- stores the last group
pub stop : {d₀ : List ℕ} {at x : ℕ} {d : List ℕ} {v i : ℕ} → Left d₀ at x d v i → v < 128
    → (set d i v ≡ sets d₀ at (bytes_of x)) × (i + 1 ≡ at + length (bytes_of x))
stop {v = v} l h = (rw (groups-small l.groups v h) at l.stored, rw (groups-small l.groups v h) at l.place)
