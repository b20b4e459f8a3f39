-- Defines how a number is written and read: seven bits to a byte, the lowest first; a byte of 128 or more says that another follows. Then
-- a number as a field with a range, and where two byte strings agree.
-- Assumes nothing.
use Rattle.std.specs.Prelude.{ℕ, zero, suc, ◌+◌, ◌-◌, ◌*◌, ◌/◌, ◌%◌, ◌<◌, ◌≤◌, ◌≡◌, ◌⊎◌, Bool, true, false, not, List, [], ◌∷◌, ◌++◌, Result, Ok, Err, ltb, leb, eqb, length, get_or}
use Rattle.papers.specs.Bounds.{max_groups}
use Rattle.papers.specs.Lists.{nth}
use Rattle.papers.specs.declared.NumberFault.{NumberFault}
use Rattle.papers.specs.declared.NumberFault.TheVariants.{Ended, TooLong, NotShortest}

-- the shortest form of x, with at most f groups after the first. No number that is written needs more than f: each is below 2^42.
unfoldable pub groups_of : ℕ → ℕ → List ℕ
groups_of zero x = x ∷ []
groups_of (suc f) x = elim (ltb x 128) [ true ↦ x ∷ [] | false ↦ (x % 128 + 128) ∷ groups_of f (x / 128) ]

-- the bytes of a number
unfoldable pub bytes_of : ℕ → List ℕ
bytes_of x = groups_of (max_groups - 1) x

-- the bytes of numbers, one after the other
unfoldable pub encode : List ℕ → List ℕ
encode [] = []
encode (x ∷ xs) = bytes_of x ++ encode xs

-- ---- reading, by index in the whole list of bytes, each below 256; an index counts from 0

-- what reading a number finds: its value and the index behind it, or what is wrong with it
abbrev pub Number : Type 0
Number = Result (ℕ × ℕ) NumberFault

-- the number whose first group is low, and whose other groups gave this number
unfoldable pub over : ℕ → Number → Number
over low (Ok (v, next)) = Ok (low + 128 * v, next)
over low (Err fault) = Err fault

-- the number that ends with the group b at `at`: a last group of 0 is not shortest, unless it is the first group
unfoldable pub last_group : Bool → ℕ → ℕ → Number
last_group is_first zero at = elim is_first [ true ↦ Ok (0, at + 1) | false ↦ Err NotShortest ]
last_group is_first (suc b) at = Ok (suc b, at + 1)

-- the number whose groups begin at `at`: at most k more may come, and the flag says whether the next is the first
unfoldable pub read_from : ℕ → Bool → List ℕ → ℕ → Number
read_from zero is_first s at = elim (ltb at (length s)) [ true ↦ Err TooLong | false ↦ Err Ended ]
read_from (suc k) is_first s at =
    elim (ltb at (length s)) [
      | true ↦ elim (ltb (get_or s at 0) 128) [
        | true ↦ last_group is_first (get_or s at 0) at
        | false ↦ over (get_or s at 0 - 128)
            (read_from k false s (at + 1))
      ]
      | false ↦ Err Ended
    ]

-- the number that starts at `at`
unfoldable pub number_read_from : List ℕ → ℕ → Number
number_read_from s at = read_from max_groups true s at

-- the bytes contain k groups from `at` on, and each has the high bit; a place past the end counts as 0
abbrev pub Continues : List ℕ → ℕ → ℕ → Type 0
Continues s at k = (i : ℕ) → i < k → 128 ≤ get_or s (at + i) 0

-- the value of k + 1 groups, the last without the high bit
unfoldable pub groups_value : List ℕ → ℕ → ℕ → ℕ
groups_value s at zero = get_or s at 0
groups_value s at (suc k) = get_or s at 0 - 128 + 128 * groups_value s (at + 1) k

-- what `number_read_from` finds, as a proposition: the bytes end inside the number; or it has too many groups; or the last of its several groups
-- is 0, so it is not shortest; or it has this value
pub data Stands (s : List ℕ) (at : ℕ) : Number → Type 0 where
  ended : {k : ℕ} → k ≤ max_groups → length s ≤ at + k → Continues s at k → Stands s at (Err Ended)
  too_long : at + max_groups < length s → Continues s at max_groups → Stands s at (Err TooLong)
  not-shortest : {k : ℕ} → 0 < k → k < max_groups → at + k < length s → Continues s at k → get_or s (at + k) 0 ≡ 0 → Stands s at (Err NotShortest)
  value : {k : ℕ} → k < max_groups → at + k < length s → Continues s at k → get_or s (at + k) 0 < 128
      → (k ≡ 0) ⊎ (0 < get_or s (at + k) 0) → Stands s at (Ok (groups_value s at k, at + k + 1))

-- ---- reading on: an index `at` counts from 0, a refusal's place from 1

-- what reading finds: a value and the index behind it, or a refusal's number and place
pub data Read (A : Type 0) : Type 0 where
  got : A → ℕ → Read A
  bad : ℕ → ℕ → Read A

-- reads on behind a value; a refusal stays as it is
unfoldable pub then : {A B : Type 0} → Read A → (A → ℕ → Read B) → Read B
then (got a at) next = next a at
then (bad number place) next = bad number place

-- a list of values, followed by those that are read next
unfoldable pub onto : {A : Type 0} → List A → Read (List A) → Read (List A)
onto xs (got ys at) = got (xs ++ ys) at
onto xs (bad number place) = bad number place

-- a field from lo to hi whose number starts at `at`: 12 if the bytes end inside it, 13 if it is too long or not shortest, 14 if it is
-- outside its range
unfoldable pub within_field : ℕ → ℕ → ℕ → Number → Read ℕ
within_field lo hi at (Ok (v, next)) = elim (ltb v lo) [ true ↦ bad 14 (at + 1) | false ↦ elim (ltb hi v) [ true ↦ bad 14 (at + 1) | false ↦ got v next ] ]
within_field lo hi at (Err Ended) = bad 12 (at + 1)
within_field lo hi at (Err TooLong) = bad 13 (at + 1)
within_field lo hi at (Err NotShortest) = bad 13 (at + 1)

-- reads the number that starts at `at` as a field from lo to hi
unfoldable pub field : ℕ → ℕ → List ℕ → ℕ → Read ℕ
field lo hi s at = within_field lo hi at (number_read_from s at)

-- 15: bytes follow; the place is the first of them
unfoldable pub at_end : {A : Type 0} → A → List ℕ → ℕ → Read A
at_end a s at = elim (ltb at (length s)) [ true ↦ bad 15 (at + 1) | false ↦ got a at ]

-- ---- byte strings

-- each number of the list is a byte
abbrev pub Bytes : List ℕ → Type 0
Bytes s = (i : ℕ) → get_or s i 0 < 256

-- tests whether byte p of a key, counted from 1, is not byte p of a plan, or the plan has ended before it
unfoldable pub differs_at : List ℕ → List ℕ → ℕ → Bool
differs_at key plan p = elim (leb p (length plan)) [ true ↦ not (eqb (nth key p) (nth plan p)) | false ↦ true ]

-- byte p of the plan is byte p of the key
abbrev pub Agrees : List ℕ → List ℕ → ℕ → Type 0
Agrees key plan p = (p ≤ length plan) × (nth key p ≡ nth plan p)
