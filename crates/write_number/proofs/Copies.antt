-- Proves that storing a number's bytes one by one stores the number: two bytes at once, or the bytes of the little array.
-- Assumes nothing.
use Prim.Native.Nat.{ℕ, ◌+◌, ◌<◌, ◌≤◌}
use mathlib.Core.Path.{◌≡◌, refl, ap, ◌∙◌}
use mathlib.Core.List.{List, [], ◌∷◌}
use native.Mathlib.Numerals.{add-one}
use lib.ListN.{length, get_or, set, replicate}
use lib.Seq.{sets}
use Rattle.list_laws.proofs.Writing.{Copied, copied_more}
use Rattle.groups.proofs.LittleArray.{array-byte}

-- stores two bytes, one behind the other
pub both_stored : (d₀ : List ℕ) {d₁ d₂ : List ℕ} (at a b : ℕ) → d₁ ≡ set d₀ at a → d₂ ≡ set d₁ (at + 1) b → d₂ ≡ sets d₀ at (a ∷ b ∷ [])
both_stored d₀ at a b e f = f ∙ rw (e, add-one) refl

-- copies the next byte of the little array, which has n places
pub copied_next : (bytes : List ℕ) (n i : ℕ) {array d₀ d d' : List ℕ} {at : ℕ} → array ≡ sets (replicate n 0) 0 bytes → length bytes ≤ n
    → i < length bytes
    → Copied bytes d₀ at d i → d' ≡ set d (at + i) (get_or array i 0) → Copied bytes d₀ at d' (i + 1)
copied_next bytes n i {d = d} {at = at} e few h p f = copied_more p h (f ∙ ap (set d (at + i)) (array-byte bytes n i e few h))
