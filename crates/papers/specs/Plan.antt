-- Defines a plan, the plan of a job, what a sound plan is, a plan's bytes, and how they are read.
-- Assumes nothing.
use Rattle.std.specs.Prelude.{ℕ, zero, suc, ◌+◌, ◌-◌, ◌<◌, ◌≤◌, ◌≡◌, ◌⊎◌, ◌≢◌, true, false, List, [], ◌∷◌, ◌++◌, Ok, Err, map, ltb, length}
use Rattle.papers.specs.Bounds.{max_peak}
use Rattle.papers.specs.Lists.{◌∈◌, Asc}
use Rattle.papers.specs.Refusals.{answer}
use Rattle.papers.specs.Job.{Job, pattern}
use Rattle.papers.specs.Fill.{R}
use Rattle.papers.specs.Tree.{parent}
use Rattle.papers.specs.Order.{Ordered, pops_of, order_of, order_peak}
use Rattle.papers.specs.Numbers.{encode, Stands, Read, got, then, onto, field, at_end}
use Rattle.papers.specs.Key.{lists_numbers, lists_of, key_of, lists_read_from}
use Rattle.papers.specs.declared.Answer.{Answer}
use Rattle.papers.specs.declared.NumberFault.TheVariants.{Ended, TooLong, NotShortest}

-- a plan: its steps, each a column with its pops; the list of each column; the peak
pub record Plan : Type 0 where
  pub steps : List (ℕ × ℕ)
  pub lists : List (List ℕ)
  pub peak : ℕ

-- the columns of the steps
abbrev pub columns_in : List (ℕ × ℕ) → List ℕ
columns_in steps = map (λ s. s.0) steps

-- the pops of the steps
abbrev pub pops_in : List (ℕ × ℕ) → List ℕ
pops_in steps = map (λ s. s.1) steps

-- the plan of a job in an order of its columns: the pops, the lists, the peak of that order
unfoldable pub plan_for : Job → List ℕ → Plan
plan_for job order =
    let n = job.n in
    record { steps = map (λ j. (j, pops_of n (pattern job) j)) order; lists = lists_of n (R (pattern job)); peak = order_peak n (pattern job) order }

-- the plan of a job that passes its tests: that of the mark's order
unfoldable pub plan_of : Job → Plan
plan_of job = plan_for job (order_of job.mark job.n (pattern job))

-- A sound plan of a job: its columns are in an order with whole subtrees, tops last; each step pops its column's number of children; each
-- list is R(j); the peak is that of the order, and within the limit.
pub record Sound (job : Job) (plan : Plan) : Type 0 where
  pub ordered : Ordered (parent (pattern job)) job.n (columns_in plan.steps)
  pub pops : pops_in plan.steps ≡ map (pops_of job.n (pattern job)) (columns_in plan.steps)
  pub rows : plan.lists ≡ lists_of job.n (R (pattern job))
  pub declared : plan.peak ≡ order_peak job.n (pattern job) (columns_in plan.steps)
  pub within : plan.peak ≤ job.limit

-- ---- the bytes of a plan

-- the numbers of the steps: of each its column and its pops
unfoldable pub step_numbers : List (ℕ × ℕ) → List ℕ
step_numbers [] = []
step_numbers (s ∷ ss) = s.0 ∷ s.1 ∷ step_numbers ss

-- the numbers of a plan: its steps, its lists by count and gaps, its peak
unfoldable pub plan_numbers : Plan → List ℕ
plan_numbers p = step_numbers p.steps ++ (lists_numbers 1 p.lists ++ (p.peak ∷ []))

-- the bytes of a plan: those of the key, then those of the plan's numbers
unfoldable pub bytes_of_plan : Job → Plan → List ℕ
bytes_of_plan job p = key_of job ++ encode (plan_numbers p)

-- the steps are in their ranges: columns from 1 to n, pops from 0 to n - 1
abbrev pub StepsFit : ℕ → List (ℕ × ℕ) → Type 0
StepsFit n [] = Unit {0}
StepsFit n (x ∷ xs) = ((1 ≤ x.0) × (x.0 ≤ n) × (x.1 ≤ n - 1)) × StepsFit n xs

-- rows behind row b are in their ranges: they ascend from above b, up to n
abbrev pub RowsFit : ℕ → ℕ → List ℕ → Type 0
RowsFit n b l = Asc b l × ((i : ℕ) → i ∈ l → i ≤ n)

-- the lists of the columns from j on are in their ranges
abbrev pub ListsFit : ℕ → ℕ → List (List ℕ) → Type 0
ListsFit n j [] = Unit {0}
ListsFit n j (l ∷ ls) = RowsFit n j l × ListsFit n (suc j) ls

-- a plan of n steps and n lists, with every number in its range
pub record Fit (n : ℕ) (plan : Plan) : Type 0 where
  pub all-steps : length plan.steps ≡ n
  pub steps : StepsFit n plan.steps
  pub all-lists : length plan.lists ≡ n
  pub lists : ListsFit n 1 plan.lists
  pub peak : plan.peak ≤ max_peak

-- the bytes are those of a plan of the job
abbrev pub AreOf : Job → List ℕ → Plan → Type 0
AreOf job bytes plan = Fit job.n plan × (bytes ≡ bytes_of_plan job plan)

-- ---- reading

-- reads a step: a column from 1 to n, then pops from 0 to n - 1
unfoldable pub step_read_from : ℕ → List ℕ → ℕ → Read (ℕ × ℕ)
step_read_from n s at = then (field 1 n s at) λ column at. then (field 0 (n - 1) s at) λ pops at. got (column, pops) at

-- reads k steps
unfoldable pub steps_read_from : ℕ → ℕ → List ℕ → ℕ → Read (List (ℕ × ℕ))
steps_read_from n zero s at = got [] at
steps_read_from n (suc k) s at = then (step_read_from n s at) λ step at. onto (step ∷ []) (steps_read_from n k s at)

-- reads the plan behind a key that ends at `at`: steps, lists, the peak from 0 to its bound, and the end
unfoldable pub plan_read_from : ℕ → List ℕ → ℕ → Read Plan
plan_read_from n s at =
    then (steps_read_from n n s at) λ steps at.
    then (lists_read_from n 1 n s at) λ lists at.
    then (field 0 max_peak s at) λ peak at.
    at_end (record { steps = steps; lists = lists; peak = peak }) s at

-- the plan that is read from the bytes behind the job's key, or the refusal that reading meets
unfoldable pub plan_read : Job → List ℕ → Read Plan
plan_read job bytes = plan_read_from job.n bytes (length (key_of job))

-- ---- the same, field by field

-- The field that comes next: a step's column or its pops, with `left` steps after this one; the row count of a column, or a gap behind `row`
-- of it, with `left` gaps after this one; the declared peak; or nothing. `counts` are the row counts read so far, the last one first.
pub data Field : Type 0 where
  column : (left : ℕ) → Field
  pops : (left : ℕ) → Field
  count : (counts : List ℕ) → Field
  gap : (counts : List ℕ) (row left : ℕ) → Field
  declared : Field
  nothing : Field

-- the least and the greatest value of a field; nobody reads `nothing`
unfoldable pub range : ℕ → Field → ℕ × ℕ
range n (column left) = (1, n)
range n (pops left) = (0, n - 1)
range n (count counts) = (0, n - suc (length counts))
range n (gap counts row left) = (1, n - row)
range n declared = (0, max_peak)
range n nothing = (0, 0)

-- the field that begins the next column's list, or the declared peak behind the last list
unfoldable pub next_list : ℕ → List ℕ → Field
next_list n counts = elim (ltb (length counts) n) [ true ↦ count counts | false ↦ declared ]

-- the field behind a row of a list, with this many gaps left
unfoldable pub next_row_of : ℕ → List ℕ → ℕ → ℕ → Field
next_row_of n counts row zero = next_list n counts
next_row_of n counts row (suc left) = gap counts row left

-- the field at which the next step begins, with this many steps left
unfoldable pub next_step : ℕ → ℕ → Field
next_step n zero = next_list n []
next_step n (suc left) = column left

-- the field that follows one with the value v
unfoldable pub following : ℕ → Field → ℕ → Field
following n (column left) v = pops left
following n (pops left) v = next_step n left
following n (count counts) v = next_row_of n (v ∷ counts) (suc (length counts)) v
following n (gap counts row left) v = next_row_of n counts (row + v) left
following n declared v = nothing
following n nothing v = nothing

-- reading from `from` on comes to this field at this place: each number before it is there, in shortest form, and in its range
pub data Reaches (n : ℕ) (s : List ℕ) (from : ℕ) : Field → ℕ → Type 0 where
  begin : Reaches n s from (next_step n n) from
  next : {x : Field} {at v to : ℕ} → Reaches n s from x at → x ≢ nothing
      → Stands s at (Ok (v, to)) → (range n x).0 ≤ v → v ≤ (range n x).1 → Reaches n s from (following n x v) to

-- the faults of a plan's bytes: of 12, 13 and 14 the first number at fault decides, and the place is the byte where it starts; of 15 the
-- place is the first byte after the peak
pub data PlanFault (n : ℕ) (s : List ℕ) (from : ℕ) : Answer → Type 0 where
  twelve : {x : Field} {at : ℕ} → Reaches n s from x at → x ≢ nothing → Stands s at (Err Ended) → PlanFault n s from (answer 12 (at + 1) 0)
  thirteen : {x : Field} {at : ℕ} → Reaches n s from x at → x ≢ nothing → Stands s at (Err TooLong) ⊎ Stands s at (Err NotShortest)
      → PlanFault n s from (answer 13 (at + 1) 0)
  fourteen : {x : Field} {at v to : ℕ} → Reaches n s from x at → x ≢ nothing → Stands s at (Ok (v, to))
      → (v < (range n x).0) ⊎ ((range n x).1 < v) → PlanFault n s from (answer 14 (at + 1) 0)
  fifteen : {at : ℕ} → Reaches n s from nothing at → at < length s → PlanFault n s from (answer 15 (at + 1) 0)
