-- Proves how the steps are written one by one: the column and the pops at place i come next, and the numbers of the later steps follow.
-- Assumes nothing.
use Prim.Native.Nat.{ℕ, ◌+◌, ◌*◌, ◌<◌, ◌≤◌}
use mathlib.Core.Path.{◌≡◌, refl, ap}
use mathlib.Core.List.{List, [], ◌∷◌}
use native.Mathlib.Omega.{arith}
use native.Mathlib.Numerals.{add-one}
use lib.ListN.{length, get_or, drop, drop_of_length-le}
use lib.Seq.{drop-cons}
use Rattle.papers.specs.Bounds.{max_columns, max_groups}
use Rattle.papers.specs.Numbers.{bytes_of, encode}
use Rattle.papers.specs.Plan.{columns_in, pops_in, step_numbers}
use Rattle.list_laws.specs.Wrote.{Wrote}
use Rattle.list_laws.proofs.Writing.{Writes, writes-none}
use Rattle.bytes_laws.proofs.Writing.{encode-none, writes-number, writes-near}
use Rattle.write_plan.specs.Lists.{step_pairs}

-- takes steps apart and puts them together again
pub steps-again : (steps : List (ℕ × ℕ)) → step_pairs (columns_in steps) (pops_in steps) ≡ steps
unfolding step_pairs
steps-again [] = refl
steps-again (s ∷ ss) = ap (λ l. s ∷ l) (steps-again ss)

-- the numbers of all steps, and of those behind the first i
abbrev pub pair_numbers : List ℕ → List ℕ → List ℕ
pair_numbers order pops = step_numbers (step_pairs order pops)

abbrev pub numbers_from : List ℕ → List ℕ → ℕ → List ℕ
numbers_from order pops i = pair_numbers (drop i order) (drop i pops)

pub steps-few : (order pops : List ℕ) → length (pair_numbers order pops) ≤ 2 * length order
unfolding step_numbers step_pairs
steps-few [] pops = omega arith
steps-few (j ∷ order) [] = omega arith
steps-few (j ∷ order) (p ∷ pops) = omega (arith, steps-few order pops)

module _ (order pops : List ℕ) (i : ℕ) (paired : length order ≤ length pops) where
  -- the next column, and its pops
  pub step-next : i < length order → numbers_from order pops i ≡ get_or order i 0 ∷ get_or pops i 0 ∷ numbers_from order pops (i + 1)
  unfolding step_numbers step_pairs
  step-next h = rw (add-one, drop-cons order i 0 h, drop-cons pops i 0 (omega arith))

  pub steps-none : length order ≤ i → numbers_from order pops i ≡ []
  unfolding step_numbers step_pairs
  steps-none h = rw (drop_of_length-le order h)

-- ---- written

-- the first i steps are written
pub record WritesSteps (order pops d₀ : List ℕ) (first : ℕ) (d : List ℕ) (next i : ℕ) : Type 0 where
  pub paired : length order ≤ length pops
  pub written : Writes (encode (pair_numbers order pops)) d₀ first (encode (numbers_from order pops i)) d next
  pub few : length order ≤ max_columns

module _ {order pops d₀ : List ℕ} {first : ℕ} {d : List ℕ} {next i : ℕ} (w : WritesSteps order pops d₀ first d next i) where
  -- every place is close to the first
  near : {left d' : List ℕ} {k : ℕ} → Writes (encode (pair_numbers order pops)) d₀ first left d' k → k ≤ first + 2 * max_groups * max_columns
  near s = omega (arith, w.few, writes-near (pair_numbers order pops) s, steps-few order pops)

  pub column-near : next ≤ first + 2 * max_groups * max_columns
  column-near = near w.written

  module _ (h : i < length order) where
    module _ {m : ℕ} {d' : List ℕ} (column : Wrote (bytes_of (get_or order i 0)) d d' next m) where
      -- the column is written, and its pops are left
      behind-column : Writes (encode (pair_numbers order pops)) d₀ first (encode (get_or pops i 0 ∷ numbers_from order pops (i + 1))) d' m
      behind-column = writes-number w.written (step-next order pops i w.paired h) column

      pub pops-near : m ≤ first + 2 * max_groups * max_columns
      pops-near = near behind-column

      pub write-turn : {m'' : ℕ} {d'' : List ℕ} → Wrote (bytes_of (get_or pops i 0)) d' d'' m m'' → WritesSteps order pops d₀ first d'' m'' (i + 1)
      write-turn popped = record { paired = w.paired; written = writes-number behind-column refl popped; few = w.few }

  pub write-stop : length order ≤ i → Wrote (encode (pair_numbers order pops)) d₀ d first next
  write-stop h = writes-none w.written (encode-none (steps-none order pops i w.paired h))
