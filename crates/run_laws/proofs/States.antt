-- Proves the states of a run over the lists R(j) of a pattern. The columns held are those that the order holds, so the room in use at each
-- step is the room of the order, whose greatest is the peak.
-- Assumes nothing.
use Prim.Native.Nat.{ℕ, zero, suc, ◌-◌, ◌<◌, ◌≤◌, max}
use mathlib.Core.Path.{◌≡◌, refl, sym, ap}
use mathlib.Core.List.Memᴰ
use mathlib.Core.List.{List, [], ◌∷◌, map}
use native.Mathlib.Omega.{arith}
use lib.ListN.{get_or, take, drop}
use lib.Seq.{take-suc}
use Rattle.papers.specs.Lists.{head0, largest}
use Rattle.papers.specs.Job.{Pattern}
use Rattle.papers.specs.Fill.{R}
use Rattle.papers.specs.Tree.{t, parent, row_count}
use Rattle.papers.specs.Room.{room_at, rooms, peak_of}
use Rattle.papers.specs.Order.{column_at_step, pops_of}
use Rattle.papers.specs.Run.{RunCall, pops_at, entries, room_in_state, pushed, stepped, state_after}
use Rattle.list_laws.proofs.Members.{map_at}
use Rattle.fill_laws.proofs.Fill.{R-range}
use Rattle.order_laws.specs.Entries.{entries_after_all}
use Rattle.order_laws.specs.Stack.{pushed_on, held_columns}
use Rattle.order_laws.proofs.Patterns.{root-rows}
use Rattle.order_laws.proofs.Steps.{column-at}
use Rattle.order_laws.proofs.Waiting.{pushed-root, pushed-update}
use Rattle.order_laws.proofs.Entries.{held-entries}
use Rattle.order_laws.proofs.Peaks.{peak-next}
use Rattle.run_laws.specs.Follows.{Follows}
use Rattle.run_laws.proofs.Factor.{rows_in, columns-long}

module _ {A : Pattern} {call : RunCall} (f : Follows A call) where
  abbrev n : ℕ
  n = call.n

  abbrev order : List ℕ
  order = call.columns

  abbrev pops : ℕ → ℕ
  pops = pops_of call.n A

  abbrev held : ℕ → List ℕ
  held = held_columns (parent A) (pops_of call.n A) call.columns

  -- the pops of a step are its column's number of children
  pub pops-at : (s : ℕ) → s < call.n → pops_at call (suc s) ≡ pops_of call.n A (column_at_step call.columns (suc s))
  unfolding pops_at
  pops-at s h =
      let e : suc s - 1 ≡ s = omega arith in
      rw (e, f.pops, column-at order s) (map_at pops order s 0 0 (omega (arith, columns-long f)))

  entries-in : (l : List ℕ) → entries call l ≡ map (λ c. t (row_count A c)) l
  unfolding entries
  entries-in [] = refl
  entries-in (c ∷ l) = rw (rows_in f c) (ap (λ m. t (row_count A c) ∷ m) (entries-in l))

  push-in : (c : ℕ) (l : List ℕ) → pushed call c l ≡ pushed_on (parent A) c l
  unfolding pushed parent head0
  push-in c l = go (R A c) refl
    where
      go : (rs : List ℕ) → R A c ≡ rs → pushed call c l ≡ pushed_on (parent A) c l
      go [] e = rw (rows_in f c, e, pushed) (sym (pushed-root (parent A) c l (ap head0 e)))
      go (r ∷ rs) e =
          let up : 0 < parent A c = rw e (omega (arith, R-range f.below c r (rw e (Memᴰ.head refl)))) in
          rw (rows_in f c, e, pushed) (sym (pushed-update (parent A) c l up))

  -- the columns held are those that the order holds
  pub held_in : (s : ℕ) → s ≤ call.n → (state_after call s).held ≡ held_columns (parent A) (pops_of call.n A) call.columns s
  unfolding state_after stepped held_columns
  held_in zero h = refl
  held_in (suc s) h = rw (pops-at s h, held_in s (omega arith)) (push-in (column_at_step order (suc s)) (drop (pops (column_at_step order (suc s))) (held s)))

  -- the room in use at a step, from what the steps before it leave
  pub room_in : (s : ℕ) → s < call.n
      → room_in_state call (suc s) (state_after call s)
      ≡ room_at (pops_of call.n A (get_or call.columns s 0)) (row_count A (get_or call.columns s 0)) (entries_after_all (row_count A) (pops_of call.n A)
      [] (take s call.columns))
  unfolding room_in_state
  room_in s h =
      rw (
        pops-at s h,
        rows_in f (column_at_step order (suc s)),
        held_in s (omega arith),
        entries-in (held s),
        column-at order s,
        held-entries (row_count A) pops (parent A) (root-rows f.below) order s (omega (arith, columns-long f)),
      )

  -- the greatest room in use of the steps done is their peak
  pub greatest-in : (s : ℕ) → s ≤ call.n → (state_after call s).greatest ≡ peak_of (row_count A) (pops_of call.n A) (take s call.columns)
  unfolding state_after stepped peak_of rooms largest
  greatest-in zero h = refl
  greatest-in (suc s) h =
      rw (take-suc order s 0 (omega (arith, columns-long f)), peak-next (row_count A) pops (take s order) (get_or order s 0), ← room_in s h)
      (ap (λ g. max g (room_in_state call (suc s) (state_after call s))) (greatest-in s (omega arith)))
