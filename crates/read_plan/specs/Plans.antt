-- Defines what the reader of a plan answers, and what it keeps of the plan in the lent slices. For a plan at fault it promises nothing of what is
-- kept.
-- Assumes nothing.
use Rattle.std.specs.Prelude.{ℕ, ◌+◌, ◌<◌, ◌≤◌, ◌≡◌, List, length, set, Result, Ok, Err}
use Rattle.std.proofs.lemmas.List.Edits.{sets}
use Rattle.papers.specs.Bounds.{max_columns, max_peak}
use Rattle.papers.specs.Lists.{flat, starts_counted_from}
use Rattle.papers.specs.Numbers.{Read, got, then, field, at_end}
use Rattle.papers.specs.Plan.{Plan, columns_in, pops_in}
use Rattle.refusals.specs.declared.Fault.{Fault}
use Rattle.read_fields.specs.Reading.{bad_from_fault}
use Rattle.read_plan.specs.declared.PlanFound.{PlanFound}

-- ---- what the readers require

-- step i of n is read from a place within the plan, and the slices have its place
pub record StepAsked (plan : List ℕ) (at n i : ℕ) (order pops : List ℕ) : Type 0 where
  pub inside : at ≤ length plan
  pub few : n ≤ max_columns
  pub step : i < n
  pub order-long : n ≤ length order
  pub pops-long : n ≤ length pops

-- the same for all n steps
pub record StepsAsked (plan : List ℕ) (at n : ℕ) (order pops : List ℕ) : Type 0 where
  pub inside : at ≤ length plan
  pub few : n ≤ max_columns
  pub order-long : n ≤ length order
  pub pops-long : n ≤ length pops

-- the lists of n columns are read from a place within the plan, and starts has a place for the start of each
pub record ListsAsked (plan : List ℕ) (at n : ℕ) (starts : List ℕ) : Type 0 where
  pub inside : at ≤ length plan
  pub few : n ≤ max_columns
  pub starts-long : n + 1 ≤ length starts

-- the plan of n columns is read behind a key that ends within the bytes
pub record PlanAsked (n : ℕ) (plan : List ℕ) (at : ℕ) (order pops starts : List ℕ) : Type 0 where
  pub few : n ≤ max_columns
  pub inside : at ≤ length plan
  pub order-long : n ≤ length order
  pub pops-long : n ≤ length pops
  pub starts-long : n + 1 ≤ length starts

-- ---- what the readers keep

-- two slices keep step i, and all steps
pub record StepKept (i : ℕ) (order₀ order pops₀ pops : List ℕ) (step : ℕ × ℕ) : Type 0 where
  pub column : order ≡ set order₀ i step.0
  pub popped : pops ≡ set pops₀ i step.1

pub record StepsKept (order₀ order pops₀ pops : List ℕ) (steps : List (ℕ × ℕ)) : Type 0 where
  pub columns : order ≡ sets order₀ 0 (columns_in steps)
  pub popped : pops ≡ sets pops₀ 0 (pops_in steps)

-- the slices keep the starts of the lists, and their rows
pub record ListsKept (starts₀ starts rows₀ rows : List ℕ) (lists : List (List ℕ)) : Type 0 where
  pub begins : starts ≡ sets starts₀ 0 (starts_counted_from 0 lists)
  pub listed : rows ≡ sets rows₀ 0 (flat lists)

-- a part is read, up to next, and kept
pub record PartKept {A : Type 0} (Kept : A → Type 0) (found : Read A) (next : ℕ) : Type 0 where
  pub part : A
  pub read : found ≡ got part next
  pub kept : Kept part

-- the answer for a part that is kept, by a reader that tells only the place behind it, or its fault
abbrev pub ToldPlace : {A : Type 0} → (A → Type 0) → Read A → Result ℕ Fault → Type 0
ToldPlace Kept found (Ok next) = PartKept Kept found next
ToldPlace Kept found (Err fault) = found ≡ bad_from_fault fault

-- ---- the whole plan

-- reads the last part: the peak, with nothing after it
unfoldable pub peak_read_from : List ℕ → ℕ → Read ℕ
peak_read_from s at = then (field 0 max_peak s at) λ peak at. at_end peak s at

-- the answer for it: the peak, or the fault
abbrev pub PeakTold : Read ℕ → Result ℕ Fault → Type 0
PeakTold found (Ok peak) = (end : ℕ) × (found ≡ got peak end)
PeakTold found (Err fault) = found ≡ bad_from_fault fault

-- what the slices keep of a plan that is read to its end
pub record PlanKept (plan : Plan) (order₀ order pops₀ pops starts₀ starts rows₀ rows : List ℕ) : Type 0 where
  pub columns : order ≡ sets order₀ 0 (columns_in plan.steps)
  pub popped : pops ≡ sets pops₀ 0 (pops_in plan.steps)
  pub begins : starts ≡ sets starts₀ 0 (starts_counted_from 0 plan.lists)
  pub listed : rows ≡ sets rows₀ 0 (flat plan.lists)

-- a plan is read to its end, and kept, and this is found in it: its declared peak and the number of its rows
pub record PlanRead (read-plan : Read Plan) (found : PlanFound) (order₀ order pops₀ pops starts₀ starts rows₀ rows : List ℕ) : Type 0 where
  pub plan : Plan
  pub end : ℕ
  pub read : read-plan ≡ got plan end
  pub declared : found.peak ≡ plan.peak
  pub counted : found.rows ≡ length (flat plan.lists)
  pub kept : PlanKept plan order₀ order pops₀ pops starts₀ starts rows₀ rows

-- the answer for the bytes behind a key: what is found in a plan that is kept, or the fault
abbrev pub PlanTold : Read Plan → List ℕ → List ℕ → List ℕ → List ℕ → List ℕ → List ℕ → List ℕ → List ℕ → Result PlanFound Fault → Type 0
PlanTold read-plan order₀ order pops₀ pops starts₀ starts rows₀ rows (Ok found) =
    PlanRead read-plan found order₀ order pops₀ pops starts₀ starts rows₀ rows
PlanTold read-plan order₀ order pops₀ pops starts₀ starts rows₀ rows (Err fault) = read-plan ≡ bad_from_fault fault
