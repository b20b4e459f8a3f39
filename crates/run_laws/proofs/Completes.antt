-- Proves that a run over the lists R(j) of a pattern, in an order of its columns, can only be refused for lack of room. So with its peak as
-- room it is done, and with less some step lacks room.
-- Assumes nothing.
use Prim.Native.Nat.{ℕ, zero, suc, ◌-◌, ◌<◌, ◌≤◌}
use mathlib.Core.Path.{◌≡◌, refl, ap}
use mathlib.Core.Logic.{◌⊎◌, inl, inr}
use mathlib.Core.List.{◌∷◌, ◌++◌}
use native.Mathlib.Omega.{arith}
use lib.ListN.{length, length-map}
use Rattle.papers.specs.declared.Answer.{Answer}
use Rattle.papers.specs.Lists.{zeros}
use Rattle.papers.specs.Refusals.{answer, Answered, Unrefused}
use Rattle.papers.specs.Job.{Pattern, columns_over, bad_starts, bad_row}
use Rattle.papers.specs.Order.{pops_of, order_peak}
use Rattle.papers.specs.Analysis.{slice_short}
use Rattle.papers.specs.Run.{RunCall, step_column, state_after, run_done, ran, FaultyStep, unknown-column, too-many-pops, row-outside, over-room}
use Rattle.papers.specs.Run.{run_lists, run_lengths, bad_step, updates_left, run_early, run_late}
use Rattle.list_laws.proofs.Tests.{strong}
use Rattle.job_laws.proofs.Passed.{lists-iff}
use Rattle.job_laws.proofs.Firsts.{◌&◌}
use Rattle.job_laws.proofs.Lengths.{lengths-pass-iff}
use Rattle.refusal_laws.proofs.Agreements.{agree-passed-iff, no-answer-iff, answered-append, unrefused-append}
use Rattle.refusal_laws.proofs.Slices.{slices-agree}
use Rattle.refusal_laws.proofs.Job.{starts-agree}
use Rattle.refusal_laws.proofs.Rows.{rows_agree}
use Rattle.run_answers.proofs.Run.{run-exactly}
use Rattle.run_laws.specs.Runs.{IsStep, room_used, Runs, LacksRoom}
use Rattle.run_laws.specs.Follows.{Follows}
use Rattle.run_laws.proofs.Factor.{lists-pass, rows_in, columns-long}
use Rattle.run_laws.proofs.Fronts.{step-known, step-held, step-popped, step-once, popped-fit, pattern-fit, front-only}
use Rattle.run_laws.proofs.Rooms.{room_bound, room-reached, peak-step, greatest-peak, ends-empty}

module _ {A : Pattern} {call : RunCall} (f : Follows A call) where
  -- ---- what cannot be refused

  columns-few : (b : Answer) → ¬ columns_over.gives call.n b
  columns-few b k = omega (arith, k.0, f.few)

  starts-fine : (b : Answer) → ¬ bad_starts.gives (run_lists call) b
  starts-fine = (agree-passed-iff _ _ (starts-agree (run_lists call))).0 ((lists-iff call.n call.starts call.rows).1 (lists-pass f)).0

  rows-fine : (b : Answer) → ¬ bad_row.gives (run_lists call) b
  rows-fine = (agree-passed-iff _ _ (rows_agree (run_lists call))).0 ((lists-iff call.n call.starts call.rows).1 (lists-pass f)).1

  slices-long : (b : Answer) → ¬ slice_short.gives (run_lengths call) b
  slices-long =
      (agree-passed-iff _ _ (slices-agree (run_lengths call))).0 ((lengths-pass-iff (run_lengths call)).1
      (omega (arith, columns-long f)
      & omega (arith, columns-long f, ap length f.pops, length-map call.columns (pops_of call.n A))
      & f.long
      & tt))

  nothing_left : (b : Answer) → ¬ updates_left.gives call b
  nothing_left b k = omega (arith, k.0, ap length (ends-empty f))

  -- a step can only lack room
  lacks-room : {m : ℕ} (s : ℕ) → IsStep call s → FaultyStep call s m → (m ≡ 23) × (call.room < room_used call s)
  lacks-room s i (unknown-column k) = absurd (k (step-known f s i))
  lacks-room s i (too-many-pops k h) = absurd (omega (arith, step-held f s i))
  lacks-room s i (row-outside k h o) = absurd (o (popped-fit f s i))
  lacks-room s i (over-room k h o r) = (refl, r)

  -- ---- with a room of the peak, or more

  early-none : Unrefused run_early call
  unfolding run_early
  early-none = columns-few & starts-fine & rows-fine & slices-long & tt

  unrefused : ((b : Answer) → ¬ bad_step.gives call b) → Unrefused (run_early ++ run_late) call
  unfolding run_late
  unrefused h = (unrefused-append run_early run_late call).1 (early-none, h & nothing_left & tt)

  done : order_peak call.n A call.columns ≤ call.room
      → ran call ≡ record { answered = answer 0 0 (order_peak call.n A call.columns); lent = zeros call.stack }
  unfolding run_done
  done h =
      let none : (b : Answer) → ¬ bad_step.gives call b = λ b (s, m, i, bad, earlier, e). absurd (omega (arith, (lacks-room s i bad).1, room_bound f s i)) in
      let exactly = run-exactly call in
      rw (← greatest-peak f) (exactly.when-done (exactly.done-iff.1 (unrefused none)))

  -- such a run is done, and has all that `Runs` demands
  pub follows-runs : order_peak call.n A call.columns ≤ call.room → Runs A (order_peak call.n A call.columns) call
  follows-runs h = record {
    steps = f.ordered;
    popped = step-popped f;
    once = step-once f;
    pattern-placed = λ s i j m. pattern-fit f s j m;
    popped-placed = popped-fit f;
    nothing-else = front-only f;
    fronts = λ s k. ap (λ rows. step_column call s ∷ rows) (rows_in f (step_column call s));
    updates = rows_in f;
    room = room_bound f;
    reached = room-reached f;
    empty = ends-empty f;
    completes = done h;
  }

  -- ---- with less

  -- if no step is the first at fault, none is at fault
  none-bad : ((b : Answer) → ¬ bad_step.gives call b) → (s : ℕ) → IsStep call s → (m : ℕ) → ¬ FaultyStep call s m
  none-bad none =
      strong (λ s. IsStep call s → (m : ℕ)
      → ¬ FaultyStep call s m) (λ s ih i m bad. none _ (s, m, i, bad, λ k m l h b. ih k h (l, omega arith) m b, refl))

  -- with less room than the peak the run is refused with 23
  pub less-refused : call.room < order_peak call.n A call.columns → LacksRoom call
  unfolding run_late
  less-refused h = go (ran call).answered.number refl
    where
      by-room : bad_step.gives call (ran call).answered → Answered run_late call (ran call).answered → LacksRoom call
      by-room (s, m, i, bad, earlier, e) late =
          let (q, r) = lacks-room s i bad in
          let a : (ran call).answered ≡ answer 23 s (state_after call (s - 1)).greatest = rw q at e in
          let left = (run-exactly call).zeroed (ran call).answered early-none late in
          record { step = s; is = i; over = r; refused = λ t. record { answered = a t; lent = left t } }

      by-late : Answered run_late call (ran call).answered → LacksRoom call
      by-late (inl k) = by-room k (inl k)
      by-late (inr (_, inl k)) = absurd (nothing_left _ k)
      by-late (inr (_, inr (_, k))) = absurd k

      by : Answered run_early call (ran call).answered ⊎ (Unrefused run_early call × Answered run_late call (ran call).answered) → LacksRoom call
      by (inl k) = absurd ((no-answer-iff run_early call).1 early-none _ k)
      by (inr (_, k)) = by-late k

      no_step : (ran call).answered.number ≡ 0 → (b : Answer) → ¬ bad_step.gives call b
      no_step e = ((unrefused-append run_early run_late call).0 ((run-exactly call).done-iff.0 e)).1.0

      go : (number : ℕ) → (ran call).answered.number ≡ number → LacksRoom call
      go zero e =
          let (s, i, r) = room-reached f (peak-step f (omega arith)) in
          let none = none-bad (no_step e) s i 23 in
          absurd (none (over-room (step-known f s i) (step-held f s i) (popped-fit f s i) (omega arith)))
      go (suc k) e = by ((answered-append run_early run_late call _).0 (((run-exactly call).refused-iff (ran call).answered (omega arith)).0 refl))
