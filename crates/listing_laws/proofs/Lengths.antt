-- Proves how long lines are: a number of at most three digits takes four bytes behind the first word of its line, and any room 14.
-- Assumes nothing.
use Prim.Native.Nat.{ℕ, ◌+◌, ◌*◌, ◌^◌, ◌<◌, ◌≤◌}
use mathlib.Core.Path.{◌≡◌, refl}
use mathlib.Core.List.Memᴰ
use mathlib.Core.List.{List, [], ◌∷◌, map}
use native.Mathlib.Omega.{arith}
use lib.ListN.{length, length-append}
use Rattle.papers.specs.declared.Answer.{Answer}
use Rattle.papers.specs.Bounds.{max_peak}
use Rattle.papers.specs.Lists.{◌∈◌, flat}
use Rattle.papers.specs.Job.{Pattern}
use Rattle.papers.specs.Fill.{R}
use Rattle.papers.specs.Order.{pops_of}
use Rattle.papers.specs.Text.{newline, space, decimal_of, printed, word_refused, refusal_line, step_lines}
use Rattle.text_laws.proofs.DecimalWords.{length-decimal}

-- ---- a line

length_none : (word : List ℕ) → length (printed word []) ≡ length word + 1
unfolding printed
length_none word = length-append word (newline ∷ [])

length-next : (word : List ℕ) (x : ℕ) (xs : List ℕ) → length (printed word (x ∷ xs)) ≡ length word + (1 + length (printed (decimal_of x) xs))
unfolding printed
length-next word x xs = omega (arith, length-append word (space ∷ printed (decimal_of x) xs))

-- the length of a line of numbers with at most three digits
length-printed : (word xs : List ℕ) → ((x : ℕ) → x ∈ xs → x < 1000) → length (printed word xs) ≤ length word + 4 * length xs + 1
length-printed word [] h = omega (arith, length_none word)
length-printed word (x ∷ xs) h =
    omega (
      arith,
      length-next word x xs,
      length-printed (decimal_of x) xs (λ y m. h y (Memᴰ.tail m)),
      length-decimal 2 x (h x (Memᴰ.head refl)),
    )

-- the line of a refusal is short, whatever 64-bit numbers it has
pub refusal-short : (a : Answer) → a.number < 2 ^ 64 → a.place < 2 ^ 64 → a.count < 2 ^ 64 → length (refusal_line a) ≤ 71
unfolding refusal_line
refusal-short a n p c =
    omega (
      arith,
      length-next word_refused a.number (a.place ∷ a.count ∷ []),
      length-next (decimal_of a.number) a.place (a.count ∷ []),
      length-next (decimal_of a.place) a.count [],
      length_none (decimal_of a.count),
      length-decimal 19 a.number (omega arith),
      length-decimal 19 a.place (omega arith),
      length-decimal 19 a.count (omega arith),
    )

-- the length of a line of three numbers, the first two of at most three digits
pub three-short : (word : List ℕ) (x y z : ℕ) → x < 1000 → y < 1000 → z ≤ max_peak → length (printed word (x ∷ y ∷ z ∷ [])) ≤ length word + 23
three-short word x y z a b c =
    omega (
      arith,
      length-next word x (y ∷ z ∷ []),
      length-next (decimal_of x) y (z ∷ []),
      length-next (decimal_of y) z [],
      length_none (decimal_of z),
      length-decimal 2 x a,
      length-decimal 2 y b,
      length-decimal 12 z (omega arith),
    )

-- ---- the lines of steps

-- the length of a step's line: its room, and three digits for each other number
step-short : (j pops room : ℕ) (rows : List ℕ) → j < 1000 → pops < 1000 → room ≤ max_peak → ((x : ℕ) → x ∈ rows → x < 1000)
    → length (printed (decimal_of j) (pops ∷ room ∷ rows)) ≤ 22 + 4 * length rows
step-short j pops room rows a b c h =
    omega (
      arith,
      length-next (decimal_of j) pops (room ∷ rows),
      length-next (decimal_of pops) room rows,
      length-printed (decimal_of room) rows h,
      length-decimal 2 j a,
      length-decimal 2 pops b,
      length-decimal 12 room (omega arith),
    )

module _ (n : ℕ) (A : Pattern) where
  pub steps-short : (order rooms : List ℕ) → ((j : ℕ) → j ∈ order → (j < 1000) × (pops_of n A j < 1000) × ((x : ℕ) → x ∈ R A j → x < 1000))
      → ((room : ℕ) → room ∈ rooms → room ≤ max_peak) → length (step_lines n A order rooms) ≤ 22 * length order + 4 * length (flat (map (R A) order))
  unfolding step_lines flat
  steps-short [] rooms h k = omega arith
  steps-short (j ∷ js) [] h k = omega arith
  steps-short (j ∷ js) (room ∷ rooms) h k =
      let (a, b, c) = h j (Memᴰ.head refl) in
      omega (
        arith,
        length-append (printed (decimal_of j) (pops_of n A j ∷ room ∷ R A j)) (step_lines n A js rooms),
        step-short j (pops_of n A j) room (R A j) a b (k room (Memᴰ.head refl)) c,
        steps-short js rooms (λ i m. h i (Memᴰ.tail m)) (λ r m. k r (Memᴰ.tail m)),
        length-append (R A j) (flat (map (R A) js)),
      )
