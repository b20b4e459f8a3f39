-- Defines what is proved of the run of a plan that passed the check.
-- Assumes nothing.
use Rattle.std.specs.Prelude.{ℕ, ◌-◌, ◌<◌, ◌≤◌, max, ◌≡◌, ◌⊎◌, ◌↔◌, ◌≢◌, List, [], ◌∷◌, map, length, take, drop}
use Rattle.papers.specs.Lists.{◌∈◌, Distinct, flat, starts_counted_from, zeros}
use Rattle.papers.specs.Refusals.{answer}
use Rattle.papers.specs.Job.{Job, Pattern, pattern}
use Rattle.papers.specs.Tree.{t, parent, front, update}
use Rattle.papers.specs.Room.{room_at}
use Rattle.papers.specs.Order.{Ordered}
use Rattle.papers.specs.Plan.{Plan, columns_in, pops_in, bytes_of_plan, Sound}
use Rattle.papers.specs.Analysis.{Lent}
use Rattle.papers.specs.Check.{checked}
use Rattle.papers.specs.Run.{RunCall, rows_in_factor, pops_at, room_in_state, state_after, ran, front_in, step_column, held_at, handed_on_call}

-- the run of a plan's own lists
abbrev pub plan_run : ℕ → Plan → ℕ → List ℕ → RunCall
plan_run n plan room stack =
    record {
      n = n;
      starts = starts_counted_from 0 plan.lists;
      rows = flat plan.lists;
      columns = columns_in plan.steps;
      pops = pops_in plan.steps;
      room = room;
      stack = stack;
    }

-- s is a step of the run
abbrev pub IsStep : RunCall → ℕ → Type 0
IsStep call s = (1 ≤ s) × (s ≤ call.n)

-- the columns whose updates step s pops
abbrev pub popped_at : RunCall → ℕ → List ℕ
popped_at call s = take (pops_at call s) (held_at call s)

-- the front of step s
abbrev pub front_at : RunCall → ℕ → List ℕ
front_at call s = front_in call (step_column call s)

-- the room in use at step s
abbrev pub room_used : RunCall → ℕ → ℕ
room_used call s = room_in_state call s (state_after call (s - 1))

-- step s of a run, whatever lists the run is given, changes the state as the rules say
pub record StepRule (call : RunCall) (s : ℕ) : Type 0 where
  -- its pops are off; a root has no rows and leaves nothing, any other column leaves its update
  pub root : rows_in_factor call (step_column call s) ≡ [] → (state_after call s).held ≡ drop (pops_at call s) (held_at call s)
  pub update : rows_in_factor call (step_column call s) ≢ [] → (state_after call s).held ≡ step_column call s ∷ drop (pops_at call s) (held_at call s)
  -- room in use counts the entries of each update held before the step, the top one first
  pub room : room_used call s ≡ room_at (pops_at call s) (length (rows_in_factor call (step_column call s)))
      (map (λ c. t (length (rows_in_factor call c))) (held_at call s))
  pub greatest : (state_after call s).greatest ≡ max (state_after call (s - 1)).greatest (room_used call s)

-- a run for the pattern A with a declared peak is as the third demand asks
pub record Runs (A : Pattern) (peak : ℕ) (call : RunCall) : Type 0 where
  -- each column has one step, and each subtree takes consecutive steps
  pub steps : Ordered (parent A) call.n call.columns
  -- each step pops the updates of its column's children, no others, and each once
  pub popped : (s : ℕ) → IsStep call s → (x : ℕ) → (x ∈ popped_at call s) ↔ (parent A x ≡ step_column call s)
  pub once : (s : ℕ) → IsStep call s → Distinct (popped_at call s)
  -- the lists are the pattern's: each column's front, and its update
  pub fronts : (s : ℕ) → IsStep call s → front_at call s ≡ front A (step_column call s)
  pub updates : (x : ℕ) → rows_in_factor call x ≡ update A x
  -- the front has a place for each pattern row and each row of a popped update
  pub pattern-placed : (s : ℕ) → IsStep call s → (i : ℕ) → i ∈ A (step_column call s) → i ∈ front_at call s
  pub popped-placed : (s : ℕ) → IsStep call s → (x i : ℕ) → x ∈ popped_at call s → i ∈ rows_in_factor call x → i ∈ front_at call s
  -- each row of the front except the column comes from the pattern or a popped update
  pub nothing-else : (s : ℕ) → IsStep call s → (i : ℕ) → i ∈ front_at call s → i ≢ step_column call s
      → (i ∈ A (step_column call s)) ⊎ ((x : ℕ) × (x ∈ popped_at call s) × (i ∈ rows_in_factor call x))
  -- no step uses more room than the peak, and if there are steps one uses as much
  pub room : (s : ℕ) → IsStep call s → room_used call s ≤ peak
  pub reached : 0 < call.n → (s : ℕ) × IsStep call s × (room_used call s ≡ peak)
  -- after the last step nothing is held
  pub empty : (state_after call call.n).held ≡ []
  -- all steps are done, and nothing is refused
  pub completes : ran call ≡ record { answered = answer 0 0 peak; lent = zeros call.stack }

-- a run is refused with 23 at a step that needs more room than is given
pub record LacksRoom (call : RunCall) : Type 0 where
  pub step : ℕ
  pub is : IsStep call step
  pub over : call.room < room_used call step
  pub refused : ran call ≡ record { answered = answer 23 step (state_after call (step - 1)).greatest; lent = zeros call.stack }

-- lists in lent slices run with the declared peak as room, and are refused with any less
pub record RunsInPeak (job : Job) (lent : Lent) (peak : ℕ) (stack : List ℕ) : Type 0 where
  pub runs : Runs (pattern job) peak (handed_on_call job.n lent peak stack)
  pub less : (room : ℕ) → room < peak → LacksRoom (handed_on_call job.n lent room stack)

-- plan bytes that passed the check: they are those of a sound plan, which they determine, and the lists that the check delivers run in its
-- peak
pub record CheckedRun (job : Job) (bytes : List ℕ) (lent : Lent) (stack : List ℕ) : Type 0 where
  pub plan : Plan
  pub declared : bytes ≡ bytes_of_plan job plan
  pub sound : Sound job plan
  pub counted : (checked job bytes lent).answered ≡ answer 0 0 plan.peak
  pub in-peak : RunsInPeak job (checked job bytes lent).lent plan.peak stack
