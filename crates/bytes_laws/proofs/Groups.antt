-- Proves two ways to say how a number's groups follow each other: of all groups at once, or of the first and then the rest. Either the
-- bytes end, or one group too many comes, or the first group without the high bit is the last.
-- Assumes nothing.
use Prim.Native.Nat.{ℕ, zero, suc, ◌+◌, ◌-◌, ◌<◌, ◌≤◌}
use mathlib.Core.Path.{◌≡◌, refl}
use mathlib.Core.Logic.{◌⊎◌, inl, inr}
use mathlib.Core.Bool.{Bool, true, false}
use mathlib.Core.List.{List}
use native.Mathlib.Omega.{arith}
use lib.ListN.{length, get_or, get_or-eq_default}
use Rattle.papers.specs.Numbers.{over, last_group, Continues, groups_value, Number}
use Rattle.papers.specs.declared.NumberFault.TheVariants.{Ended, TooLong, NotShortest}
use Rattle.std.specs.Prelude.{Ok, Err}
use Rattle.list_laws.proofs.Tests.{below_or}
use Rattle.bytes_laws.proofs.NumberReading.{Shown, shown-some, last-shown}

-- tests whether a group behind k others is the first of its number
abbrev pub first_at : Bool → ℕ → Bool
first_at first zero = first
first_at first (suc k) = false

later : (k : ℕ) → first_at false k ≡ false
later zero = refl
later (suc k) = refl

-- the number whose groups begin at `at`: at most m may still come, and the flag says whether the next is the first
pub data Standing (m : ℕ) (first : Bool) (s : List ℕ) (at : ℕ) : Number → Type 0 where
  ends : {k : ℕ} → k ≤ m → length s ≤ at + k → Continues s at k → Standing m first s at (Err Ended)
  goes_on : at + m < length s → Continues s at m → Standing m first s at (Err TooLong)
  zero-last : {k : ℕ} → first_at first k ≡ false → k < m → at + k < length s → Continues s at k → get_or s (at + k) 0 ≡ 0
      → Standing m first s at (Err NotShortest)
  last : {k : ℕ} → k < m → at + k < length s → Continues s at k → get_or s (at + k) 0 < 128 → Shown (first_at first k) (get_or s (at + k) 0)
      → Standing m first s at (Ok (groups_value s at k, at + k + 1))

-- the same, by its first group
pub data ByGroup (first : Bool) (s : List ℕ) (at : ℕ) : ℕ → Number → Type 0 where
  no-group : {m : ℕ} → length s ≤ at → ByGroup first s at m (Err Ended)
  too_many : at < length s → ByGroup first s at 0 (Err TooLong)
  last-group : {m : ℕ} → at < length s → get_or s at 0 < 128 → ByGroup first s at (suc m) (last_group first (get_or s at 0) at)
  more-groups : {m : ℕ} {x : Number} → at < length s → 128 ≤ get_or s at 0 → Standing m false s (at + 1) x
      → ByGroup first s at (suc m) (over (get_or s at 0 - 128) x)

module _ (s : List ℕ) (at : ℕ) where
  none-continue : Continues s at 0
  none-continue i h = absurd (omega arith)

  first-continues : (k : ℕ) → Continues s at (suc k) → 128 ≤ get_or s at 0
  first-continues k c = let e : at + 0 ≡ at = omega arith in rw e at (c 0 (omega arith))

  rest-continue : (k : ℕ) → Continues s at (suc k) → Continues s (at + 1) k
  rest-continue k c i h = let e : at + suc i ≡ at + 1 + i = omega arith in rw e at (c (suc i) (omega arith))

  continue-both : (k : ℕ) → 128 ≤ get_or s at 0 → Continues s (at + 1) k → Continues s at (suc k)
  continue-both k b c zero h = let e : at + 0 ≡ at = omega arith in rw e b
  continue-both k b c (suc i) h = let e : at + suc i ≡ at + 1 + i = omega arith in rw e (c i (omega arith))

  -- if a place of the bytes is not 0, the bytes reach it
  there : 128 ≤ get_or s at 0 → at < length s
  there b = go (below_or at (length s))
    where
      go : (at < length s) ⊎ (length s ≤ at) → at < length s
      go (inl h) = h
      go (inr h) = absurd (omega (arith, get_or-eq_default s 0 h))

  -- ---- from all groups to the first and the rest

  split-end : (m k : ℕ) {first : Bool} → k ≤ m → length s ≤ at + k → Continues s at k → ByGroup first s at m (Err Ended)
  unfolding over
  split-end m zero l h c = no-group (omega arith)
  split-end zero (suc k) l h c = absurd (omega arith)
  split-end (suc m) (suc k) l h c =
      let b = first-continues k c in
      more-groups {m = m} {x = Err Ended} (there b) b (ends {k = k} (omega arith) (omega arith) (rest-continue k c))

  split-long : (m : ℕ) {first : Bool} → at + m < length s → Continues s at m → ByGroup first s at m (Err TooLong)
  unfolding over
  split-long zero h c = too_many (omega arith)
  split-long (suc m) h c = let b = first-continues m c in more-groups {m = m} {x = Err TooLong} (there b) b (goes_on (omega arith) (rest-continue m c))

  split-zero : (m k : ℕ) {first : Bool} → first_at first k ≡ false → k < m → at + k < length s → Continues s at k → get_or s (at + k) 0 ≡ 0
      → ByGroup first s at m (Err NotShortest)
  unfolding over last_group
  split-zero zero k o l h c e = absurd (omega arith)
  split-zero (suc m) zero o l h c e =
      let q : at + 0 ≡ at = omega arith in
      let z : get_or s at 0 ≡ 0 = rw q at e in
      let g : ByGroup false s at (suc m) (last_group false (get_or s at 0) at) = last-group {m = m} (omega arith) (omega arith) in
      rw o (rw z at g)
  split-zero (suc m) (suc k) o l h c e =
      let b = first-continues k c in
      let q : at + suc k ≡ at + 1 + k = omega arith in
      more-groups {m = m} {x = Err NotShortest} (there b) b (zero-last {k = k} (later k) (omega arith) (omega arith) (rest-continue k c) (rw q at e))

  split-last : (m k : ℕ) {first : Bool} → k < m → at + k < length s → Continues s at k → get_or s (at + k) 0 < 128
      → Shown (first_at first k) (get_or s (at + k) 0)
      → ByGroup first s at m (Ok (groups_value s at k, at + k + 1))
  unfolding over groups_value
  split-last zero k l h c b o = absurd (omega arith)
  split-last (suc m) zero {first} l h c b o =
      let q : at + 0 ≡ at = omega arith in
      let g : ByGroup first s at (suc m) (last_group first (get_or s at 0) at) = last-group (omega arith) (rw q at b) in
      rw q (rw (last-shown first (get_or s at 0) at (rw q at o)) at g)
  split-last (suc m) (suc k) {first} l h c b o =
      let d = first-continues k c in
      let q : at + suc k ≡ at + 1 + k = omega arith in
      rw q (more-groups {m = m} {x = Ok (groups_value s (at + 1) k, at + 1 + k + 1)} (there d) d (last {k = k} (omega arith) (omega arith)
      (rest-continue k c) (rw q at b) (shown-some (first_at false k) _ (rw q at o))))

  pub split : {m : ℕ} {first : Bool} {x : Number} → Standing m first s at x → ByGroup first s at m x
  split {m} (ends {k = k} l h c) = split-end m k l h c
  split {m} (goes_on h c) = split-long m h c
  split {m} (zero-last {k = k} o l h c e) = split-zero m k o l h c e
  split {m} (last {k = k} l h c b o) = split-last m k l h c b o

  -- ---- and back

  one-group : (first : Bool) (m : ℕ) → at < length s → get_or s at 0 < 128 → Shown first (get_or s at 0)
      → Standing (suc m) first s at (Ok (get_or s at 0, at + 1))
  unfolding groups_value
  one-group first m h l o =
      let q : at + 0 ≡ at = omega arith in
      let g : Standing (suc m) first s at (Ok (groups_value s at 0, at + 0 + 1)) = last {k = 0} (omega arith) (omega arith) none-continue (rw q l)
      (rw q o) in
      rw q at g

  join_last : (first : Bool) (m b : ℕ) → get_or s at 0 ≡ b → at < length s → b < 128 → Standing (suc m) first s at (last_group first b at)
  unfolding last_group
  join_last true m zero e h l = rw e at (one-group true m h (omega arith) tt)
  join_last false m zero e h l = let q : at + 0 ≡ at = omega arith in zero-last {k = 0} refl (omega arith) (omega arith) none-continue (rw q e)
  join_last first m (suc b) e h l = rw e at (one-group first m h (omega arith) (shown-some first (get_or s at 0) (omega arith)))

  join_more : (m : ℕ) {first : Bool} {x : Number} → 128 ≤ get_or s at 0 → Standing m false s (at + 1) x
      → Standing (suc m) first s at (over (get_or s at 0 - 128) x)
  unfolding over groups_value
  join_more m b (ends {k = k} l h c) = ends {k = suc k} (omega arith) (omega arith) (continue-both k b c)
  join_more m b (goes_on h c) = goes_on (omega arith) (continue-both m b c)
  join_more m b (zero-last {k = k} o l h c e) =
      let q : at + suc k ≡ at + 1 + k = omega arith in
      zero-last {k = suc k} refl (omega arith) (omega arith) (continue-both k b c) (rw q e)
  join_more m {first} b (last {k = k} l h c d o) =
      let q : at + suc k ≡ at + 1 + k = omega arith in
      let g : Standing (suc m) first s at (Ok (groups_value s at (suc k), at + suc k + 1)) =
      last {k = suc k} (omega arith) (omega arith) (continue-both k b c) (rw q d) (rw q (rw (later k) at o)) in
      rw q at g

  pub join : {m : ℕ} {first : Bool} {x : Number} → ByGroup first s at m x → Standing m first s at x
  join (no-group h) = ends {k = 0} (omega arith) (omega arith) none-continue
  join (too_many h) = goes_on (omega arith) none-continue
  join {first = first} (last-group {m = m} h b) = join_last first m (get_or s at 0) refl h b
  join (more-groups {m = m} h b g) = join_more m b g
