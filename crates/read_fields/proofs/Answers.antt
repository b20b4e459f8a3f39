-- Proves that a field's number and range decide what reading the field finds.
-- Assumes nothing.
use Prim.Native.Nat.{ℕ, ◌+◌, ◌-◌, ◌*◌, ◌<◌, ◌≤◌}
use mathlib.Core.Bool.{true, false}
use mathlib.Core.Logic.{◌≢◌}
use mathlib.Core.List.{List}
use mathlib.Core.Path.{◌≡◌, refl, sym, ap, ◌∙◌}
use native.Mathlib.Omega.{arith}
use lib.ListN.{length, get_or}
use borrow.Author.Tests.{lt-ltb, le-ltb}
use Rattle.std.specs.Prelude.{Result, Ok, Err}
use Rattle.papers.specs.Bounds.{max_groups}
use Rattle.papers.specs.Numbers.{over, number_read_from, Read, got, bad, within_field, field, Number}
use Rattle.papers.specs.declared.NumberFault.TheVariants.{Ended, TooLong, NotShortest}
use Rattle.refusals.specs.declared.Fault.{Fault}
use Rattle.read_fields.specs.Reading.{Told}
use Rattle.bytes_laws.proofs.Fields as fields
use Rattle.bytes_laws.proofs.NumberReading.{read-last, read_more, shown-some, last-shown}

-- ---- a field, by its number

module _ (low high at v next : ℕ) where
  -- a number outside its range is 14, at its first place
  pub below-range : v < low → bad 14 (at + 1) ≡ within_field low high at (Ok (v, next))
  unfolding within_field
  below-range h = rw (lt-ltb v low h, within_field)

  module _ (l : low ≤ v) where
    pub above-range : high < v → bad 14 (at + 1) ≡ within_field low high at (Ok (v, next))
    unfolding within_field
    above-range h = rw (le-ltb v low l, lt-ltb high v h, within_field)

    pub in-range : v ≤ high → got v next ≡ within_field low high at (Ok (v, next))
    unfolding within_field
    in-range h = rw (le-ltb v low l, le-ltb high v h, within_field)

-- bytes that end within a number are 12; a number that is too long or not shortest is 13
module _ (low high at : ℕ) where
  pub ended-is-12 : bad 12 (at + 1) ≡ within_field low high at (Err Ended)
  unfolding within_field
  ended-is-12 = refl

  pub too-long-is-13 : bad 13 (at + 1) ≡ within_field low high at (Err TooLong)
  unfolding within_field
  too-long-is-13 = refl

  pub not-shortest-is-13 : bad 13 (at + 1) ≡ within_field low high at (Err NotShortest)
  unfolding within_field
  not-shortest-is-13 = refl

-- the number read at a place gives the field
pub field-by-number : (low high : ℕ) (s : List ℕ) (at : ℕ) {x : Number} {r : Read ℕ} → x ≡ number_read_from s at → r ≡ within_field low high at x
    → r ≡ field low high s at
unfolding field
field-by-number low high s at e f = f ∙ ap (within_field low high at) e

-- a byte below 128 is a number
pub one-group : (s : List ℕ) (at : ℕ) {b : ℕ} → at < length s → b ≡ get_or s at 0 → b < 128 → Ok (b, at + 1) ≡ number_read_from s at
unfolding number_read_from
one-group s at {b} h e l =
    let last = read-last true s at h (max_groups - 1) (omega arith) ∙ last-shown true (get_or s at 0) at tt in
    ap (λ (x : ℕ). Ok (x, at + 1)) e ∙ sym last

-- a byte of 128 or more and a byte from 1 to 127 behind it are a number
pub two-groups : (s : List ℕ) (at : ℕ) {low next : ℕ} → at + 1 < length s → low ≡ get_or s at 0 → 128 ≤ low → next ≡ get_or s (at + 1) 0 → next ≢ 0
    → next < 128
    → Ok (low - 128 + 128 * next, at + 2) ≡ number_read_from s at
unfolding number_read_from over
two-groups s at {low} {next} h e l f z u =
    let first = read_more true s at (omega arith) (max_groups - 1) (omega arith) in
    let shown = shown-some false (get_or s (at + 1) 0) (omega arith) in
    let last = read-last false s (at + 1) h (max_groups - 2) (omega arith) ∙ last-shown false (get_or s (at + 1) 0) (at + 1) shown in
    let place : at + 1 + 1 ≡ at + 2 = omega arith in
    sym (first ∙ ap (over (get_or s at 0 - 128)) last ∙ rw (place, ← e, ← f))

-- ---- a field that is found

-- finds a field from a number in its range
pub field_is : (low high : ℕ) (s : List ℕ) (at : ℕ) {v next : ℕ} → Ok (v, next) ≡ number_read_from s at → low ≤ v → v ≤ high
    → field low high s at ≡ got v next
field_is low high s at {v} {next} e l h = sym (field-by-number low high s at e (in-range low high at v next l h))

-- the field is in its range, and ends within the bytes
pub field_found : {low high : ℕ} {s : List ℕ} {at v next : ℕ} → got v next ≡ field low high s at → fields.Found low high s at v next
field_found {low} {high} {s} {at} {v} {next} e = fields.field-got low high s at v next (sym e)

-- what is told of one reading is told of any equal reading
pub told_of : {A : Type 0} (f : A → ℕ) (Kept : A → Type 0) {found same : Read A} (r : Result (ℕ × ℕ) Fault) → same ≡ found → Told f Kept found r
    → Told f Kept same r
told_of f Kept r e t = rw e t
