-- Proves that slices pass the test of their lengths (7) exactly when each is long enough.
-- Assumes nothing.
use Prim.Native.Nat.{◌<◌, ◌≤◌}
use mathlib.Core.Path.{◌≡◌, refl, sym, ◌∙◌}
use mathlib.Core.Logic.{◌↔◌}
use mathlib.Core.Bool.{Bool, true, false, ◌||◌}
use mathlib.Core.List.{List, [], ◌∷◌}
use lib.Dec.{ltb}
use borrow.Author.Tests.{ltb-false, lt-ltb, le-ltb}
use Rattle.papers.specs.Refusals.{answer, passed, refused}
use Rattle.papers.specs.Analysis.{Fixed, some_short, LongEnough, slice_short}
use Rattle.list_laws.proofs.Tests.{Test, passes, fails, test, true-false}
use Rattle.job_laws.proofs.Firsts.{refused-if, passed-if-iff}

-- a slice that is too short decides; one that is long enough leaves it to the others
pub short-here : (x : Fixed) (xs : List Fixed) → x.long < x.least → some_short (x ∷ xs) ≡ true
unfolding some_short
short-here x xs h = rw (lt-ltb x.long x.least h)

pub short-later : (x : Fixed) (xs : List Fixed) → x.least ≤ x.long → some_short (x ∷ xs) ≡ some_short xs
unfolding some_short
short-later x xs h = rw (le-ltb x.long x.least h)

-- of the last slice its own length decides
pub short-last : (x : Fixed) → some_short (x ∷ []) ≡ ltb x.long x.least
unfolding some_short
short-last x = go (ltb x.long x.least)
  where
    go : (b : Bool) → (b || false) ≡ b
    go true = refl
    go false = refl

-- none is too short exactly when each is long enough
pub long-iff : (xs : List Fixed) → (some_short xs ≡ false) ↔ LongEnough xs
unfolding some_short
long-iff [] = (λ e. tt, λ h. refl)
long-iff (x ∷ xs) = (there (long-iff xs).0 (test (ltb x.long x.least)), λ h. short-later x xs h.0 ∙ (long-iff xs).1 h.1)
  where
    there : (some_short xs ≡ false → LongEnough xs) → Test (ltb x.long x.least) → some_short (x ∷ xs) ≡ false → LongEnough (x ∷ xs)
    there ih (passes e) f = absurd (true-false refl (rw e at f))
    there ih (fails e) f = let h = ltb-false x.long x.least e in (h, ih (sym (short-later x xs h) ∙ f))

-- the test of 7 passes exactly when each is long enough
pub lengths-pass-iff : (xs : List Fixed) → (slice_short.test xs ≡ passed) ↔ LongEnough xs
lengths-pass-iff xs =
    let i = passed-if-iff (some_short xs) (answer 7 0 0) in
    let k = long-iff xs in
    (λ e. k.0 (i.0 e), λ h. i.1 (k.1 h))

pub lengths-refuse : (xs : List Fixed) → some_short xs ≡ true → slice_short.test xs ≡ refused (answer 7 0 0)
lengths-refuse xs e = refused-if (some_short xs) (answer 7 0 0) e
