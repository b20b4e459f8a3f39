-- Defines a run of steps on a stack of updates: when it refuses, its whole outcome, and how it is handed the lists of an analysis.
-- Assumes nothing.
use Rattle.std.specs.Prelude.{ℕ, zero, suc, ◌+◌, ◌-◌, ◌<◌, ◌≤◌, max, Bool, true, false, ◌&&◌, List, [], ◌∷◌, map, ltb, leb, length, take, drop}
use Rattle.papers.specs.Lists.{◌∈◌, nth, member, every, zeros}
use Rattle.papers.specs.Refusals.{answer, Refusal, when, on, Outcome, outcome, first_fault_among}
use Rattle.papers.specs.Job.{start, column_of, columns_over, RowLists, bad_starts, bad_row}
use Rattle.papers.specs.Tree.{t}
use Rattle.papers.specs.Room.{room_at}
use Rattle.papers.specs.Order.{column_at_step}
use Rattle.papers.specs.Analysis.{Lent, Fixed, slice_short}

-- the input of a run: n, factor starts and rows, columns, pops, a room, and the stack slice lent
pub record RunCall : Type 0 where
  pub n : ℕ
  pub starts : List ℕ
  pub rows : List ℕ
  pub columns : List ℕ
  pub pops : List ℕ
  pub room : ℕ
  pub stack : List ℕ

-- the state of a run: the columns whose updates are held, the top one first, and the greatest room in use so far
pub record State : Type 0 where
  pub held : List ℕ
  pub greatest : ℕ

module _ (call : RunCall) where
  -- the rows of column c
  unfoldable pub rows_in_factor : ℕ → List ℕ
  rows_in_factor c = column_of call.starts call.rows c

  -- the front of column c: c, then its rows
  abbrev pub front_in : ℕ → List ℕ
  front_in c = c ∷ rows_in_factor c

  -- the column of step s
  abbrev pub step_column : ℕ → ℕ
  step_column s = column_at_step call.columns s

  -- the pops of step s
  unfoldable pub pops_at : ℕ → ℕ
  pops_at s = nth call.pops s

  -- the entries of each update held
  unfoldable pub entries : List ℕ → List ℕ
  entries held = map (λ c. t (length (rows_in_factor c))) held

  -- the room in use at step s
  unfoldable pub room_in_state : ℕ → State → ℕ
  room_in_state s state = room_at (pops_at s) (length (rows_in_factor (step_column s))) (entries state.held)

  -- tests whether every row of every popped update is in the front of c
  unfoldable pub fits : ℕ → List ℕ → Bool
  fits c popped = every (λ u. every (λ i. member i (front_in c)) (rows_in_factor u)) popped

  -- the first fault of step s, in this order: 14 there is no such column; 21 fewer updates are held than it pops; 22 the front has no place
  -- for a row of one of these; 23 it needs more room than is given; else 0
  unfoldable pub fault_of_step : ℕ → State → ℕ
  fault_of_step s state =
      let c = step_column s in
      elim (leb 1 c && leb c call.n) [
        | false ↦ 14
        | true ↦ elim (ltb (length state.held) (pops_at s)) [
          | true ↦ 21
          | false ↦ elim (fits c (take (pops_at s) state.held)) [
            | false ↦ 22
            | true ↦ elim (ltb call.room (room_in_state s state)) [ true ↦ 23 | false ↦ 0 ]
          ]
        ]
      ]

  -- what is held when c's update goes on top; a root has no rows and leaves nothing
  unfoldable pub pushed : ℕ → List ℕ → List ℕ
  pushed c held = elim (rows_in_factor c) [ [] ↦ held | r ∷ rs ↦ c ∷ held ]

  -- the state after step s
  unfoldable pub stepped : ℕ → State → State
  stepped s state =
      record { held = pushed (step_column s) (drop (pops_at s) state.held); greatest = max state.greatest (room_in_state s state) }

  -- the state after the first s steps
  unfoldable pub state_after : ℕ → State
  state_after zero = record { held = []; greatest = 0 }
  state_after (suc s) = stepped (suc s) (state_after s)

  -- the columns whose updates are held before step s
  abbrev pub held_at : ℕ → List ℕ
  held_at s = (state_after (s - 1)).held

  -- the fault of step s, after the steps before it
  unfoldable pub fault_at : ℕ → ℕ
  fault_at s = fault_of_step s (state_after (s - 1))

-- n, factor starts and factor rows of a run
abbrev pub run_lists : RunCall → RowLists
run_lists call = record { n = call.n; starts = call.starts; rows = call.rows }

-- the fixed lengths of a run: columns, pops and stack slice n each
abbrev pub run_fixed : ℕ → List ℕ → List ℕ → List ℕ → List Fixed
run_fixed n columns pops stack =
    record { long = length columns; least = n } ∷ record { long = length pops; least = n } ∷ record { long = length stack; least = n } ∷ []

-- those of its input
abbrev pub run_lengths : RunCall → List Fixed
run_lengths call = run_fixed call.n call.columns call.pops call.stack

-- step s names a column from 1 to n
abbrev pub KnownColumn : RunCall → ℕ → Type 0
KnownColumn call s = (1 ≤ step_column call s) × (step_column call s ≤ call.n)

-- every row of every popped update is in the front of step s
abbrev pub AllFit : RunCall → ℕ → Type 0
AllFit call s = (u i : ℕ) → u ∈ take (pops_at call s) (held_at call s) → i ∈ rows_in_factor call u → i ∈ front_in call (step_column call s)

-- the fault of step s after the steps before it, in the order tested: 14, 21, 22, 23
pub data FaultyStep (call : RunCall) (s : ℕ) : ℕ → Type 0 where
  unknown-column : ¬ KnownColumn call s → FaultyStep call s 14
  too-many-pops : KnownColumn call s → length (held_at call s) < pops_at call s → FaultyStep call s 21
  row-outside : KnownColumn call s → pops_at call s ≤ length (held_at call s) → ¬ AllFit call s → FaultyStep call s 22
  over-room : KnownColumn call s → pops_at call s ≤ length (held_at call s) → AllFit call s
      → call.room < room_in_state call s (state_after call (s - 1)) → FaultyStep call s 23

-- 14, 21, 22, 23: a step is at fault; the first decides, and the count is the greatest room in use of the steps before it
abbrev pub bad_step : Refusal RunCall
bad_step = first_fault_among (λ call. call.n) fault_at FaultyStep (λ call number s. answer number s (state_after call (s - 1)).greatest)

-- 24: updates are left after the last step
abbrev pub updates_left : Refusal RunCall
updates_left =
    when (λ call. ltb 0 (length (state_after call call.n).held)) (λ call. 0 < length (state_after call call.n).held)
    (λ call. answer 24 call.n (state_after call call.n).greatest)

-- the early refusals of a run: 1, 4, 5 and 6, 7
unfoldable pub run_early : List (Refusal RunCall)
run_early = on (λ call. call.n) columns_over ∷ on run_lists bad_starts ∷ on run_lists bad_row ∷ on run_lengths slice_short ∷ []

-- the late ones: those of the steps, then 24
unfoldable pub run_late : List (Refusal RunCall)
run_late = bad_step ∷ updates_left ∷ []

-- a run is done: the count is the greatest room in use, and the stack slice is zero
unfoldable pub run_done : RunCall → Outcome (List ℕ)
run_done call = record { answered = answer 0 0 (state_after call call.n).greatest; lent = zeros call.stack }

-- the whole outcome of a run
unfoldable pub ran : RunCall → Outcome (List ℕ)
ran call = outcome run_early run_late run_done zeros call call.stack

-- the run of an analysis's or check's result: each list is the part that holds the result, without the zeros behind it
unfoldable pub handed_on_call : ℕ → Lent → ℕ → List ℕ → RunCall
handed_on_call n lent room stack =
    let starts = take (n + 1) lent.factor_starts in
    record {
      n = n;
      starts = starts;
      rows = take (start starts (suc n)) lent.factor_rows;
      columns = take n lent.order;
      pops = take n lent.pops;
      room = room;
      stack = stack;
    }
