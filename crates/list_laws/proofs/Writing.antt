-- Bytes written one after the other into a lent slice: what is left to write, from the place reached, is on top of what was written the whole. So one
-- part more is one rewriting, and where nothing is left the whole is written.
-- Assumes nothing.
use Prim.Native.Nat.{ℕ, suc, ◌+◌, ◌<◌, ◌≤◌}
use mathlib.Core.Path.{◌≡◌, refl, sym, ap, ◌∙◌}
use mathlib.Core.List.{List, [], ◌∷◌, ◌++◌}
use native.Mathlib.Omega.{arith}
use native.Mathlib.Numerals.{add-one}
use lib.ListN.{length, get_or, set, drop, drop_of_length-le, length-append}
use lib.Seq.{sets, length-sets, drop-cons}
use Rattle.list_laws.specs.Wrote.{Wrote}
use Rattle.list_laws.proofs.Stores.{sets-append}

-- ---- what a writer promises

-- the slice keeps its length
pub wrote-long : {bytes before after : List ℕ} {at r : ℕ} → Wrote bytes before after at r → length after ≡ length before
wrote-long {bytes} {before} {at = at} w = ap length w.writes ∙ length-sets before at bytes

-- one byte
pub wrote-byte : {d : List ℕ} {at b : ℕ} → Wrote (b ∷ []) d (set d at b) at (at + 1)
wrote-byte = record { place = refl; writes = refl }

-- one part behind another
pub wrote-both : {x y d₀ d e : List ℕ} {at k m : ℕ} → Wrote x d₀ d at k → Wrote y d e k m → Wrote (x ++ y) d₀ e at m
wrote-both {x} {y} {d₀} {at = at} v w =
    record {
      place = omega (arith, v.place, w.place, length-append x y);
      writes = rw (sets-append x d₀ at y, ← v.writes, ← v.place) w.writes;
    }

-- the same bytes by another name
pub wrote_as : {x y d e : List ℕ} {at k : ℕ} → x ≡ y → Wrote y d e at k → Wrote x d e at k
wrote_as e w = rw e w

-- two parts fit: the first, and behind it the other
pub first_fits : (x y : List ℕ) {n : ℕ} → length (x ++ y) ≤ n → length x ≤ n
first_fits x y h = omega (arith, length-append x y)

pub second_fits : (x y : List ℕ) {d₀ d : List ℕ} {at k : ℕ} → Wrote x d₀ d at k → at + length (x ++ y) ≤ length d₀ → k + length y ≤ length d
second_fits x y w h = omega (arith, w.place, wrote-long w, length-append x y)

-- ---- part by part

-- of the bytes `whole`, which go into d₀ from `at` on, `rest` is left, and goes into d from k on
pub record Writes (whole d₀ : List ℕ) (at : ℕ) (rest d : List ℕ) (k : ℕ) : Type 0 where
  pub place : k + length rest ≡ at + length whole
  pub stored : sets d k rest ≡ sets d₀ at whole
  pub long : length d ≡ length d₀

module _ {whole d₀ : List ℕ} {at : ℕ} where
  pub writes-all : Writes whole d₀ at whole d₀ at
  writes-all = record { place = refl; stored = refl; long = refl }

  module _ {rest d : List ℕ} {k : ℕ} (w : Writes whole d₀ at rest d k) where
    -- a part more
    pub writes-part : {part more e : List ℕ} {m : ℕ} → Wrote part d e k m → rest ≡ part ++ more → Writes whole d₀ at more e m
    writes-part {part} {more} p f =
        let q = w.place in
        record {
          place = omega (arith, p.place, ap length f, length-append part more);
          stored = rw (p.writes, p.place, ← (sets-append part d k more), ← f) w.stored;
          long = wrote-long p ∙ w.long;
        }

    -- it fits
    pub part-fits : (part more : List ℕ) → rest ≡ part ++ more → at + length whole ≤ length d₀ → k + length part ≤ length d
    part-fits part more f h = omega (arith, w.place, w.long, ap length f, length-append part more)

    -- the last part
    pub writes-last : {e : List ℕ} {m : ℕ} → Wrote rest d e k m → Wrote whole d₀ e at m
    writes-last p = record { place = p.place ∙ w.place; writes = p.writes ∙ w.stored }

    -- nothing is left
    pub writes-none : rest ≡ [] → Wrote whole d₀ d at k
    writes-none f = record { place = omega (arith, w.place, ap length f); writes = ap (sets d k) (sym f) ∙ w.stored }

-- a slice and a place where `rest` is left
pub record Reached (whole d₀ : List ℕ) (at : ℕ) (rest : List ℕ) : Type 0 where
  pub slice : List ℕ
  pub place : ℕ
  pub left : Writes whole d₀ at rest slice place

-- ---- byte by byte

-- the first i bytes are written
pub record Copied (bytes d₀ : List ℕ) (at : ℕ) (d : List ℕ) (i : ℕ) : Type 0 where
  pub written : Writes bytes d₀ at (drop i bytes) d (at + i)
  pub passed : i ≤ length bytes

pub copied_none : (bytes d : List ℕ) (at : ℕ) → Copied bytes d at d 0
copied_none bytes d at = let e : at + 0 ≡ at = omega arith in record { written = rw e writes-all; passed = omega arith }

module _ {bytes d₀ : List ℕ} {at : ℕ} {d : List ℕ} {i : ℕ} (s : Copied bytes d₀ at d i) where
  pub copied_more : i < length bytes → {e : List ℕ} → e ≡ set d (at + i) (get_or bytes i 0) → Copied bytes d₀ at e (i + 1)
  copied_more h f =
      let next : Wrote (get_or bytes i 0 ∷ []) d _ (at + i) (at + suc i) = record { place = omega arith; writes = f } in
      record { written = rw add-one (writes-part s.written next (drop-cons bytes i 0 h)); passed = omega arith }

  pub copied_all : length bytes ≤ i → Wrote bytes d₀ d at (at + i)
  copied_all h = writes-none s.written (drop_of_length-le bytes h)
