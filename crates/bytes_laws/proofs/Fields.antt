-- Proves that parts are read one behind the other, and that a field that is read is a number of its range, in shortest form, at its place.
-- So what is read are the bytes at that place, and bytes at a place are read.
-- Assumes nothing.
use Prim.Native.Nat.{ℕ, ◌+◌, ◌*◌, ◌^◌, ◌<◌, ◌≤◌}
use mathlib.Core.Path.{◌≡◌, refl, sym, ap, ◌∙◌}
use mathlib.Core.Bool.{Bool, true, false}
use mathlib.Core.List.{List, [], ◌++◌, append_assoc, append-nil}
use native.Mathlib.Omega.{arith}
use lib.Dec.{ltb}
use lib.ListN.{length, drop, length-append, drop_of_length-le}
use lib.Seq.{drop_at, drop-length}
use borrow.Author.Tests.{ltb-false, le-ltb}
use Rattle.papers.specs.Bounds.{max_groups}
use Rattle.papers.specs.Numbers.{bytes_of, number_read_from, Read, got, bad, then, onto, within_field, field, Bytes, Number}
use Rattle.papers.specs.declared.NumberFault.TheVariants.{Ended, TooLong, NotShortest}
use Rattle.std.specs.Prelude.{Ok, Err}
use Rattle.bytes_laws.proofs.NumberReading.{stands-behind, read_back}
use Rattle.bytes_laws.proofs.ShortestForm.{reads-inside, reads-shortest}

-- ---- one part behind another

pub got-inj : {A : Type 0} {a b : A} {m n : ℕ} → got a m ≡ got b n → (a ≡ b) × (m ≡ n)
got-inj e = (cc, cc)

pub got-bad : {A : Type 0} {r : Read A} {a : A} {m c p : ℕ} → r ≡ got a m → r ≡ bad c p → ⊥
got-bad e f = let z : ◌≡◌ {A = ℕ} 0 1 = cc in omega arith

module _ {A B : Type 0} (next : A → ℕ → Read B) where
  pub then-got : {r : Read A} {a : A} {at : ℕ} → r ≡ got a at → then r next ≡ next a at
  unfolding then
  then-got e = rw e

  pub then-bad : {r : Read A} {number place : ℕ} → r ≡ bad number place → then r next ≡ bad number place
  unfolding then
  then-bad e = rw e

  -- if two parts are found one behind the other, the first is found, and the second behind it
  pub then-only : (r : Read A) {b : B} {to : ℕ} → then r next ≡ got b to → (a : A) × (at : ℕ) × (r ≡ got a at) × (next a at ≡ got b to)
  unfolding then
  then-only (got a at) e = (a, at, refl, e)
  then-only (bad number place) e = absurd (got-bad e refl)

module _ {A : Type 0} (xs : List A) where
  pub onto-got : {r : Read (List A)} {ys : List A} {at : ℕ} → r ≡ got ys at → onto xs r ≡ got (xs ++ ys) at
  unfolding onto
  onto-got e = rw e

  pub onto-bad : {r : Read (List A)} {number place : ℕ} → r ≡ bad number place → onto xs r ≡ bad number place
  unfolding onto
  onto-bad e = rw e

  pub onto-only : (r : Read (List A)) {zs : List A} {at : ℕ} → onto xs r ≡ got zs at → (ys : List A) × (r ≡ got ys at) × (xs ++ ys ≡ zs)
  unfolding onto
  onto-only (got ys to) e = let (p, q) = got-inj e in (ys, ap (got ys) q, p)
  onto-only (bad number place) e = absurd (got-bad e refl)

-- ---- bytes at a place

-- the bytes from `at` up to next are w
pub record Spans (s : List ℕ) (at : ℕ) (w : List ℕ) (next : ℕ) : Type 0 where
  pub place : next ≡ at + length w
  pub form : drop at s ≡ w ++ drop next s

pub spans-none : (s : List ℕ) (at : ℕ) → Spans s at [] at
spans-none s at = record { place = omega arith; form = refl }

pub spans-both : {s : List ℕ} {at mid next : ℕ} (v w : List ℕ) → Spans s at v mid → Spans s mid w next → Spans s at (v ++ w) next
spans-both {s} {next = next} v w a b =
    let p = a.place in
    let q = b.place in
    record { place = omega (arith, length-append v w); form = a.form ∙ ap (λ (l : List ℕ). v ++ l) b.form ∙ sym (append_assoc v w (drop next s)) }

pub spans-cut : {s : List ℕ} {at next : ℕ} (v w : List ℕ) → Spans s at (v ++ w) next → Spans s at v (at + length v) × Spans s (at + length v) w next
spans-cut {s} {at} {next} v w a =
    let p = a.place in
    let f = a.form ∙ append_assoc v w (drop next s) in
    let b = stands-behind s at v (w ++ drop next s) f in
    (record { place = refl; form = f ∙ ap (λ (l : List ℕ). v ++ l) (sym b) }, record { place = omega (arith, length-append v w); form = b })

-- w reaches to the end of the bytes
pub spans-end : (s v w : List ℕ) → s ≡ v ++ w → Spans s (length v) w (length s)
spans-end s v w e =
    record {
      place = ap length e ∙ length-append v w;
      form = ap (drop (length v)) e ∙ drop_at v w (length v) refl ∙ sym (append-nil w) ∙ ap (λ (l : List ℕ). w ++ l) (sym (drop-length s));
    }

pub spans-to-end : {s : List ℕ} {at next : ℕ} (w : List ℕ) → Spans s at w next → length s ≤ next → drop at s ≡ w
spans-to-end {s} w a h = a.form ∙ ap (λ (l : List ℕ). w ++ l) (drop_of_length-le s h) ∙ append-nil w

-- ---- one field

-- a field that was read: its number is in its range
pub record Found (lo hi : ℕ) (s : List ℕ) (at v next : ℕ) : Type 0 where
  pub number : number_read_from s at ≡ Ok (v, next)
  pub low : lo ≤ v
  pub high : v ≤ hi
  pub on : at < next
  pub inside : next ≤ length s

in_field : (lo hi at : ℕ) (x : Number) (v next : ℕ) → within_field lo hi at x ≡ got v next → (x ≡ Ok (v, next)) × (lo ≤ v) × (v ≤ hi)
unfolding within_field
in_field lo hi at (Ok (w, to)) v next e = go (ltb w lo) (ltb hi w) refl refl e
  where
    go : (p q : Bool) → ltb w lo ≡ p → ltb hi w ≡ q
        → ◌≡◌ {A = Read ℕ} (elim p [ true ↦ bad 14 (at + 1) | false ↦ elim q [ true ↦ bad 14 (at + 1) | false ↦ got w to ] ]) (got v next)
        → (◌≡◌ {A = Number} (Ok (w, to)) (Ok (v, next))) × (lo ≤ v) × (v ≤ hi)
    go true q a b f = absurd (got-bad f refl)
    go false true a b f = absurd (got-bad f refl)
    go false false a b f =
        let (m, n) = got-inj f in
        let l = ltb-false w lo a in
        let h = ltb-false hi w b in
        (cc, omega arith, omega arith)
in_field lo hi at (Err Ended) v next e = absurd (got-bad e refl)
in_field lo hi at (Err TooLong) v next e = absurd (got-bad e refl)
in_field lo hi at (Err NotShortest) v next e = absurd (got-bad e refl)

-- a field that was read is a number of its range, and its bytes do not go past the end
pub field-got : (lo hi : ℕ) (s : List ℕ) (at v next : ℕ) → field lo hi s at ≡ got v next → Found lo hi s at v next
unfolding field
field-got lo hi s at v next e =
    let (x, l, h) = in_field lo hi at (number_read_from s at) v next e in
    let (p, q) = reads-inside s at v next x in
    record { number = x; low = l; high = h; on = p; inside = q }

-- the bytes read are its number in shortest form
pub field-only : (lo hi : ℕ) (s : List ℕ) (at v next : ℕ) → Bytes s → field lo hi s at ≡ got v next → Spans s at (bytes_of v) next
field-only lo hi s at v next bytes e =
    let r = reads-shortest s at v next bytes (field-got lo hi s at v next e).number in record { place = r.place; form = r.form }

-- if the bytes at a place are those of a number of the range, that number is read
pub field_back : (lo hi : ℕ) (s : List ℕ) (at v next : ℕ) → lo ≤ v → v ≤ hi → v < 2 ^ (7 * max_groups) → Spans s at (bytes_of v) next
    → field lo hi s at ≡ got v next
unfolding field within_field
field_back lo hi s at v next l h f a =
    rw (read_back s at v (drop next s) f a.form, le-ltb v lo l, le-ltb hi v h, within_field) (ap (got v) (sym a.place))
