-- Proves that a number is read as `Stands` says: reading takes the first group, and then the rest.
-- Assumes nothing.
use Prim.Native.Nat.{ℕ, zero, suc, ◌+◌, ◌-◌, ◌<◌, ◌≤◌}
use mathlib.Core.Path.{◌≡◌, refl, ap, ◌∙◌}
use mathlib.Core.Logic.{◌⊎◌, inl, inr, ◌↔◌}
use mathlib.Core.Bool.{Bool, true, false}
use mathlib.Core.List.{List}
use native.Mathlib.Omega.{arith}
use lib.ListN.{length, get_or}
use Rattle.papers.specs.Bounds.{max_groups}
use Rattle.papers.specs.Numbers.{over, read_from, number_read_from, Stands, ended, too_long, not-shortest, value, Number}
use Rattle.list_laws.proofs.Tests.{true-false, below_or}
use Rattle.bytes_laws.proofs.NumberReading.{read-end, read-long, read-last, read_more, Shown}
use Rattle.bytes_laws.proofs.Groups.{first_at, Standing, ends, goes_on, zero-last, last, ByGroup, no-group, too_many, last-group}
use Rattle.bytes_laws.proofs.Groups.{more-groups, split, join}

-- ---- reading, from all groups and back

standing-read : (m : ℕ) (first : Bool) (s : List ℕ) (at : ℕ) (x : Number) → Standing m first s at x → read_from m first s at ≡ x
standing-read zero first s at x g = go (split s at g)
  where
    go : {x : Number} → ByGroup first s at 0 x → read_from 0 first s at ≡ x
    go (no-group h) = read-end 0 first s at h
    go (too_many h) = read-long first s at h
standing-read (suc m) first s at x g = go (split s at g) (standing-read m false s (at + 1))
  where
    go : {x : Number} → ByGroup first s at (suc m) x → ((y : Number) → Standing m false s (at + 1) y → read_from m false s (at + 1) ≡ y)
        → read_from (suc m) first s at ≡ x
    go (no-group h) ih = read-end (suc m) first s at h
    go (last-group h b) ih = read-last first s at h m b
    go (more-groups {x = y} h b t) ih = read_more first s at h m b ∙ ap (over (get_or s at 0 - 128)) (ih y t)

read-standing : (m : ℕ) (first : Bool) (s : List ℕ) (at : ℕ) → Standing m first s at (read_from m first s at)
read-standing zero first s at = go (below_or at (length s))
  where
    go : (at < length s) ⊎ (length s ≤ at) → Standing 0 first s at (read_from 0 first s at)
    go (inl h) = rw (read-long first s at h) (join s at (too_many h))
    go (inr h) = rw (read-end 0 first s at h) (join s at (no-group h))
read-standing (suc m) first s at = go (below_or at (length s)) (below_or (get_or s at 0) 128) (read-standing m false s (at + 1))
  where
    go : (at < length s) ⊎ (length s ≤ at) → (get_or s at 0 < 128) ⊎ (128 ≤ get_or s at 0) → Standing m false s (at + 1) (read_from m false s (at + 1))
        → Standing (suc m) first s at (read_from (suc m) first s at)
    go (inr h) c ih = rw (read-end (suc m) first s at h) (join s at (no-group h))
    go (inl h) (inl b) ih = rw (read-last first s at h m b) (join s at (last-group h b))
    go (inl h) (inr b) ih = rw (read_more first s at h m b) (join s at (more-groups h b ih))

-- ---- the number that starts at a place

-- a number is read exactly as `Stands` says
pub number-stands-iff : (s : List ℕ) (at : ℕ) (x : Number) → (number_read_from s at ≡ x) ↔ Stands s at x
unfolding number_read_from
number-stands-iff s at x = (λ e. into (rw e at (read-standing max_groups true s at)), λ t. standing-read max_groups true s at x (out t))
  where
    into : {x : Number} → Standing max_groups true s at x → Stands s at x
    into (ends l h c) = ended l h c
    into (goes_on h c) = too_long h c
    into (zero-last {k = k} o l h c e) = not-shortest (some k o) l h c e
      where
        some : (k : ℕ) → first_at true k ≡ false → 0 < k
        some zero e = absurd (true-false refl e)
        some (suc k) e = omega arith
    into (last {k = k} l h c b o) = value l h c b (only k o)
      where
        only : (k : ℕ) {b : ℕ} → Shown (first_at true k) b → (k ≡ 0) ⊎ (0 < b)
        only zero o = inl refl
        only (suc k) o = inr o

    out : {x : Number} → Stands s at x → Standing max_groups true s at x
    out (ended l h c) = ends l h c
    out (too_long h c) = goes_on h c
    out (not-shortest {k = k} p l h c e) = zero-last (not_first k p) l h c e
      where
        not_first : (k : ℕ) → 0 < k → first_at true k ≡ false
        not_first zero p = absurd (omega arith)
        not_first (suc k) p = refl
    out (value {k = k} l h c b o) = last l h c b (shown k o)
      where
        shown : (k : ℕ) {b : ℕ} → (k ≡ 0) ⊎ (0 < b) → Shown (first_at true k) b
        shown zero o = tt
        shown (suc k) (inl e) = absurd (omega arith)
        shown (suc k) (inr p) = p
