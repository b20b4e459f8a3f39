-- Proves what a slice keeps after a part of it comes back changed, or after a run of stores elsewhere.
-- Assumes nothing.
use Prim.Native.Nat.{ℕ, suc, ◌+◌, ◌-◌, ◌≤◌}
use mathlib.Core.Path.{◌≡◌, refl, sym, ap, ◌∙◌}
use mathlib.Core.List.{List, [], ◌∷◌, ◌++◌, append_assoc}
use native.Mathlib.Omega.{arith}
use lib.ListN.{length, set, take, drop, length-drop, length-append}
use lib.Seq.{sets, sets-eq, slice, drop-drop, take_at, drop_at, length-take-le}
use Rattle.list_laws.specs.Parts.{part}
use Rattle.list_laws.proofs.Parts.{part_slice, part_length}
use Rattle.list_laws.proofs.Slices.{slice-low, slice-high}

-- ---- a part that came back changed
module _ (l ys : List ℕ) (a e : ℕ) (rise : a ≤ e) (inside : e ≤ length l) (count : length ys ≡ e - a) where
  pub back-sets : take a l ++ (ys ++ drop (e - a) (drop a l)) ≡ sets l a ys
  back-sets =
      let f : a + length ys ≤ length l = omega arith in
      let d : drop (e - a) (drop a l) ≡ drop (a + length ys) l = drop-drop (e - a) a l ∙ ap (λ n. drop (a + n) l) (sym count) in
      rw (sets-eq ys l a f, d) (sym (append_assoc (take a l) ys (drop (a + length ys) l)))

  pub back-part : part a e (take a l ++ (ys ++ drop (e - a) (drop a l))) ≡ ys
  back-part =
      ap (take (e - a)) (drop_at (take a l) (ys ++ drop (e - a) (drop a l)) a (length-take-le a l (omega arith))) ∙ take_at ys
      (drop (e - a) (drop a l)) (e - a) count

-- ---- two parts that came back one after the other: s for the places before m, then z for those from m to w
module _ (work s z : List ℕ) (m w : ℕ) (h : m ≤ w) (g : w ≤ length work) (start-kept : length s ≡ length (take m work))
    (back-kept : length z ≡ length (part m w (s ++ drop m work)))
  where
    abbrev both : List ℕ
    both = take m (s ++ drop m work) ++ (z ++ drop (w - m) (drop m (s ++ drop m work)))

    start-length : length s ≡ m
    start-length = start-kept ∙ length-take-le m work (omega arith)

    whole : w ≤ length (s ++ drop m work)
    whole = omega (arith, length-append s (drop m work), start-length, length-drop m work)

    pub start_is : take m both ≡ s
    start_is =
        let a : take m (s ++ drop m work) ≡ s = take_at s (drop m work) m start-length in
        rw a (take_at s (z ++ drop (w - m) (drop m (s ++ drop m work))) m start-length)

    pub back_is : part m w both ≡ z
    back_is = back-part (s ++ drop m work) z m w h whole (back-kept ∙ part_length m w (s ++ drop m work) h whole)

-- ---- slices after a run of stores
pub slice-behind : (ys l : List ℕ) (i a b : ℕ) → i + length ys ≤ a → slice a b (sets l i ys) ≡ slice a b l
slice-behind [] l i a b h = refl
slice-behind (y ∷ ys) l i a b h = slice-behind ys (set l i y) (suc i) a b (omega arith) ∙ slice-low a b i y l (omega arith)

pub slice-before : (ys l : List ℕ) (i a b : ℕ) → b ≤ i → slice a b (sets l i ys) ≡ slice a b l
slice-before [] l i a b h = refl
slice-before (y ∷ ys) l i a b h = slice-before ys (set l i y) (suc i) a b (omega arith) ∙ slice-high a b i y l h

pub slice-run : (ys l : List ℕ) (i e : ℕ) → i ≤ e → e ≤ length l → length ys ≡ e - i → slice i e (sets l i ys) ≡ ys
slice-run ys l i e h g n = sym (part_slice i e (sets l i ys)) ∙ (ap (part i e) (sym (back-sets l ys i e h g n)) ∙ back-part l ys i e h g n)
