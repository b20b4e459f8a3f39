-- Proves how long a key is at most, and how far the reading of a plan can go: each number has at most six groups. A key has four numbers, a
-- count for each column and a gap for each row. While a plan is read, each number leaves fewer to come, and n bounds how many can come.
-- Assumes nothing.
use Prim.Native.Nat.{ℕ, zero, suc, ◌+◌, ◌-◌, ◌*◌, ◌<◌, ◌≤◌}
use mathlib.Core.Path.{◌≡◌, refl, ap}
use mathlib.Core.Logic.{◌≢◌}
use mathlib.Core.List.{List, [], ◌∷◌}
use native.Mathlib.Omega.{arith}
use lib.Dec.{ltb}
use lib.ListN.{length, length-append}
use borrow.Author.Tests.{ltb-true}
use Rattle.papers.specs.Numbers.{Number, Stands, ended, too_long, not-shortest, value}
use Rattle.papers.specs.declared.NumberFault.TheVariants.{Ended, TooLong, NotShortest}
use Rattle.std.specs.Prelude.{Ok, Err}
use Rattle.papers.specs.Bounds.{max_groups}
use Rattle.papers.specs.Lists.{flat}
use Rattle.papers.specs.Job.{Job, pattern}
use Rattle.papers.specs.Key.{list_numbers, lists_numbers, lists_of, key_numbers, key_of}
use Rattle.papers.specs.Plan.{Field, column, pops, count, gap, declared, nothing, next_list, next_row_of, next_step, following, Reaches, begin, next}
use Rattle.papers.specs.Plan.{range}
use Rattle.job_laws.specs.Passed.{Starts}
use Rattle.list_laws.proofs.Tests.{Test, passes, fails, test}
use Rattle.bytes_laws.proofs.Gaps.{length-gaps}
use Rattle.bytes_laws.proofs.Writing.{encode-short}
use Rattle.job_laws.proofs.Laid.{length-lists, rows-laid}

-- ---- a key

count-numbers : (j : ℕ) (ls : List (List ℕ)) → length (lists_numbers j ls) ≡ length ls + length (flat ls)
unfolding lists_numbers list_numbers flat
count-numbers j [] = refl
count-numbers j (l ∷ ls) =
    omega (arith, length-append (list_numbers j l) (lists_numbers (suc j) ls), length-append l (flat ls), length-gaps j l, count-numbers (suc j) ls)

pub key-short : (job : Job) → Starts job.n job.starts job.rows → length (key_of job) ≤ max_groups * (4 + job.n + length job.rows)
unfolding key_of key_numbers
key-short job s =
    omega (
      arith,
      encode-short (key_numbers job),
      count-numbers 1 (lists_of job.n (pattern job)),
      length-lists (pattern job) job.n,
      ap length (rows-laid s),
    )

-- ---- a plan

-- the most numbers that the lists of m columns of n, and the peak, can have
unfoldable pub most_of : ℕ → ℕ → ℕ
most_of n zero = 1
most_of n (suc m) = suc n + most_of n m

-- the most numbers from column j's list on
abbrev from_column : ℕ → ℕ → ℕ
from_column n j = most_of n (n + 1 - j)

-- the most numbers that can come from a field on
unfoldable left : ℕ → Field → ℕ
left n (column k) = 2 * k + 2 + from_column n 1
left n (pops k) = 2 * k + 1 + from_column n 1
left n (count counts) = suc n + from_column n (suc (suc (length counts)))
left n (gap counts row k) = suc k + from_column n (suc (length counts))
left n declared = 1
left n nothing = 0

some_left : (n m : ℕ) → 1 ≤ most_of n m
unfolding most_of
some_left n zero = omega arith
some_left n (suc m) = omega (arith, some_left n m)

module _ (n : ℕ) where
  list_left : (counts : List ℕ) → left n (next_list n counts) ≤ from_column n (suc (length counts))
  unfolding left next_list most_of
  list_left counts = go (test (ltb (length counts) n))
    where
      go : Test (ltb (length counts) n) → left n (next_list n counts) ≤ from_column n (suc (length counts))
      go (passes e) =
          let h = ltb-true (length counts) n e in
          let q : n + 1 - suc (length counts) ≡ suc (n + 1 - suc (suc (length counts))) = omega arith in
          rw (e, next_list, left, q, most_of) (omega arith)
      go (fails e) = rw (e, next_list, left) (some_left n (n + 1 - suc (length counts)))

  row-left : (counts : List ℕ) (row k : ℕ) → left n (next_row_of n counts row k) ≤ k + from_column n (suc (length counts))
  unfolding left next_row_of
  row-left counts row zero = omega (arith, list_left counts)
  row-left counts row (suc k) = omega arith

  step_left : (k : ℕ) → left n (next_step n k) ≤ 2 * k + from_column n 1
  unfolding left next_step
  step_left zero = omega (arith, list_left [])
  step_left (suc k) = omega arith

  -- each number that is read leaves fewer to come
  fewer-left : (x : Field) (v : ℕ) → x ≢ nothing → v ≤ (range n x).1 → left n (following n x v) < left n x
  unfolding left following range
  fewer-left (column k) v some h = omega arith
  fewer-left (pops k) v some h = omega (arith, step_left k)
  fewer-left (count counts) v some h = omega (arith, row-left (v ∷ counts) (suc (length counts)) v)
  fewer-left (gap counts row k) v some h = omega (arith, row-left counts (row + v) k)
  fewer-left declared v some h = omega arith
  fewer-left nothing v some h = absurd (some refl)

  -- a number ends at most six bytes behind its start
  abbrev Ends : ℕ → Number → Type 0
  Ends at (Ok (v, to)) = to ≤ at + max_groups
  Ends at (Err Ended) = Unit {0}
  Ends at (Err TooLong) = Unit {0}
  Ends at (Err NotShortest) = Unit {0}

  ends : {s : List ℕ} {at : ℕ} {r : Number} → Stands s at r → Ends at r
  ends (ended l h c) = tt
  ends (too_long h c) = tt
  ends (not-shortest p l h c z) = tt
  ends (value l h c b o) = omega arith

  -- reading reaches a field at most this many bytes on
  reaches-left : {s : List ℕ} {from : ℕ} {x : Field} {at : ℕ} → Reaches n s from x at
      → at + max_groups * left n x ≤ from + max_groups * (2 * n + most_of n n)
  reaches-left begin = let e : n + 1 - 1 ≡ n = omega arith in let h = rw e at (step_left n) in omega arith
  reaches-left (next {x = x} {v = v} r some stands l h) = omega (arith, reaches-left r, fewer-left x v some h, ends stands)

  -- reading goes at most this many bytes behind the key
  pub reaches-short : {s : List ℕ} {from : ℕ} {x : Field} {at : ℕ} → Reaches n s from x at → at ≤ from + max_groups * (2 * n + most_of n n)
  reaches-short {x = x} r = omega (arith, reaches-left r)

-- a bound for at most m columns
pub most-short : (n m k : ℕ) → n ≤ m → most_of n k ≤ 1 + k * suc m
unfolding most_of
most-short n m zero h = omega arith
most-short n m (suc k) h = omega (arith, most-short n m k h)
