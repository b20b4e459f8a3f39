-- Proves that only a number's shortest form is read. The last group read is not 0 unless it is the first, so the number is too large for
-- fewer groups, and its remainders by 128 are the groups that were read.
-- Assumes nothing.
use Prim.Native.Nat.{ℕ, zero, suc, ◌+◌, ◌-◌, ◌*◌, ◌/◌, ◌%◌, ◌^◌, ◌<◌, ◌≤◌}
use mathlib.Core.Path.{◌≡◌, sym, ap, ◌∙◌}
use mathlib.Core.Logic.{◌⊎◌, inl, inr}
use mathlib.Core.Bool.{Bool, true, false}
use mathlib.Core.List.{List, ◌∷◌, ◌++◌}
use native.Mathlib.Omega.{arith}
use native.Mathlib.Numerals.{add-one}
use lib.ListN.{length, get_or, drop, length-append, length-drop}
use lib.Seq.{drop-cons}
use Rattle.list_laws.proofs.Tests.{below_or}
use Rattle.papers.specs.Bounds.{max_groups}
use Rattle.papers.specs.Numbers.{groups_of, bytes_of, over, last_group, read_from, number_read_from, Bytes, Number}
use Rattle.papers.specs.declared.NumberFault.TheVariants.{Ended, TooLong, NotShortest}
use Rattle.std.specs.Prelude.{Ok, Err}
use Rattle.bytes_laws.proofs.Numbers.{Grouped, last, more, grouped-below, groups-small, groups-large}
use Rattle.bytes_laws.proofs.NumberReading.{read-end, read-long, read-last, read_more, Shown, shown-some, value_inj}

abbrev NoValue : Number → Type 0
NoValue (Ok (x, next)) = ⊥
NoValue (Err Ended) = Unit {0}
NoValue (Err TooLong) = Unit {0}
NoValue (Err NotShortest) = Unit {0}

no_value : {r : Number} {x next : ℕ} → NoValue r → r ≡ Ok (x, next) → ⊥
no_value n e = rw e at n

last-only : (first : Bool) (b at x next : ℕ) → last_group first b at ≡ Ok (x, next) → (b ≡ x) × (at + 1 ≡ next) × Shown first x
unfolding last_group
last-only true zero at x next e = let (p, q) = value_inj e in (p, q, tt)
last-only false zero at x next e = absurd (no_value tt e)
last-only true (suc b) at x next e = let (p, q) = value_inj e in (p, q, tt)
last-only false (suc b) at x next e = let (p, q) = value_inj e in (p, q, omega arith)

over-only : (low : ℕ) (r : Number) (x next : ℕ) → over low r ≡ Ok (x, next) → (v : ℕ) × (r ≡ Ok (v, next)) × (x ≡ low + 128 * v)
unfolding over
over-only low (Ok (v, n)) x next e = let (p, q) = value_inj e in (v, ap (λ m. Ok (v, m)) q, sym p)
over-only low (Err Ended) x next e = absurd (no_value tt e)
over-only low (Err TooLong) x next e = absurd (no_value tt e)
over-only low (Err NotShortest) x next e = absurd (no_value tt e)

read-there : (k : ℕ) (first : Bool) (s : List ℕ) (at x next : ℕ) → read_from k first s at ≡ Ok (x, next) → at < length s
read-there k first s at x next e = go (below_or at (length s))
  where
    go : (at < length s) ⊎ (length s ≤ at) → at < length s
    go (inl h) = h
    go (inr h) = absurd (no_value tt (sym (read-end k first s at h) ∙ e))

none_left : (first : Bool) (s : List ℕ) (at x next : ℕ) → read_from 0 first s at ≡ Ok (x, next) → ⊥
none_left first s at x next e = no_value tt (sym (read-long first s at (read-there 0 first s at x next e)) ∙ e)

-- a group of a number that was read: it is the last, or the rest was read behind it
data Group (k : ℕ) (first : Bool) (s : List ℕ) (at x next : ℕ) : Type 0 where
  ends : at < length s → x < 128 → get_or s at 0 ≡ x → at + 1 ≡ next → Shown first x → Group k first s at x next
  goes : (v : ℕ) → at < length s → 128 ≤ get_or s at 0 → x ≡ get_or s at 0 - 128 + 128 * v → read_from k false s (at + 1) ≡ Ok (v, next)
      → Group k first s at x next

group-read : (k : ℕ) (first : Bool) (s : List ℕ) (at x next : ℕ) → read_from (suc k) first s at ≡ Ok (x, next) → Group k first s at x next
group-read k first s at x next e = go (below_or (get_or s at 0) 128)
  where
    h : at < length s
    h = read-there (suc k) first s at x next e

    go : (get_or s at 0 < 128) ⊎ (128 ≤ get_or s at 0) → Group k first s at x next
    go (inl b) = let (p, q, w) = last-only first (get_or s at 0) at x next (sym (read-last first s at h k b) ∙ e) in ends h (omega arith) p q w
    go (inr b) = let (v, r, p) = over-only _ _ x next (sym (read_more first s at h k b) ∙ e) in goes v h b p r

reaches : (k : ℕ) (first : Bool) (s : List ℕ) (at x next : ℕ) → read_from k first s at ≡ Ok (x, next) → (at < next) × (next ≤ length s)
reaches zero first s at x next e = absurd (none_left first s at x next e)
reaches (suc k) first s at x next e = go (group-read k first s at x next e) (λ v. reaches k false s (at + 1) v next)
  where
    go : Group k first s at x next → ((v : ℕ) → read_from k false s (at + 1) ≡ Ok (v, next) → (at + 1 < next) × (next ≤ length s))
        → (at < next) × (next ≤ length s)
    go (ends h l b q w) ih = (omega arith, omega arith)
    go (goes v h b p r) ih = let (m, n) = ih v r in (omega arith, n)

-- the bytes of a number that was read do not go past the end
pub reads-inside : (s : List ℕ) (at x next : ℕ) → number_read_from s at ≡ Ok (x, next) → (at < next) × (next ≤ length s)
unfolding number_read_from
reads-inside s at x next = reaches max_groups true s at x next

-- x was read from `at` up to next, with at most f groups after the first
record Only (f : ℕ) (first : Bool) (s : List ℕ) (at x next : ℕ) : Type 0 where
  few : Grouped f x
  shown : Shown first x
  form : drop at s ≡ groups_of f x ++ drop next s

only-last : (f : ℕ) (first : Bool) (s : List ℕ) (at x next : ℕ) → at < length s → x < 128 → get_or s at 0 ≡ x → at + 1 ≡ next → Shown first x
    → Only f first s at x next
only-last f first s at x next h l p q w =
    record { few = last l; shown = w; form = rw (groups-small f x l, ← q, add-one, ← p) (drop-cons s at 0 h) }

module _ (s : List ℕ) (bytes : Bytes s) where
  only-more : (f : ℕ) (first : Bool) (at x next v : ℕ) → at < length s → 128 ≤ get_or s at 0 → x ≡ get_or s at 0 - 128 + 128 * v
      → Only f false s (at + 1) v next → Only (suc f) first s at x next
  only-more f first at x next v h b e o =
      let z = o.shown in
      let u = bytes at in
      let d : x / 128 ≡ v = omega arith in
      let m : x % 128 + 128 ≡ get_or s at 0 = omega arith in
      record {
        few = more {f = f} {x = x} (omega arith) (rw d o.few);
        shown = shown-some first x (omega arith);
        form = rw (groups-large f x (omega arith), m, d) (drop-cons s at 0 h ∙ rw (← add-one at) (ap (λ l. get_or s at 0 ∷ l) o.form));
      }

  reads_only : (f : ℕ) (first : Bool) (at x next : ℕ) → read_from (suc f) first s at ≡ Ok (x, next) → Only f first s at x next
  reads_only zero first at x next e = go (group-read zero first s at x next e)
    where
      go : Group zero first s at x next → Only zero first s at x next
      go (ends h l b q w) = only-last zero first s at x next h l b q w
      go (goes v h b p r) = absurd (none_left false s (at + 1) v next r)
  reads_only (suc f) first at x next e = go (group-read (suc f) first s at x next e) (λ v. reads_only f false (at + 1) v next)
    where
      go : Group (suc f) first s at x next → ((v : ℕ) → read_from (suc f) false s (at + 1) ≡ Ok (v, next) → Only f false s (at + 1) v next)
          → Only (suc f) first s at x next
      go (ends h l b q w) ih = only-last (suc f) first s at x next h l b q w
      go (goes v h b p r) ih = only-more f first at x next v h b p (ih v r)

-- a number that was read: the bytes from `at` up to next are its bytes, and no other form of it
pub record ReadShortest (s : List ℕ) (at x next : ℕ) : Type 0 where
  pub on : at < next
  pub inside : next ≤ length s
  pub fits : x < 2 ^ (7 * max_groups)
  pub place : next ≡ at + length (bytes_of x)
  pub form : drop at s ≡ bytes_of x ++ drop next s

pub reads-shortest : (s : List ℕ) (at x next : ℕ) → Bytes s → number_read_from s at ≡ Ok (x, next) → ReadShortest s at x next
unfolding number_read_from bytes_of
reads-shortest s at x next bytes e =
    let o = reads_only s bytes (max_groups - 1) true at x next e in
    let (p, q) = reads-inside s at x next e in
    let l : length (drop at s) ≡ length (bytes_of x) + length (drop next s) = ap length o.form ∙ length-append (bytes_of x) (drop next s) in
    let a = length-drop at s in
    let b = length-drop next s in
    record { on = p; inside = q; fits = grouped-below o.few; place = omega arith; form = o.form }
