-- Proves what the solver's call answers for each way in which its key can read, and that its one number can be taken apart: the number is
-- at most 27, and the sizes keep the place below 2^32, so the place is the remainder.
-- Assumes nothing.
use Prim.Native.Nat.{ℕ, ◌/◌, ◌%◌, ◌^◌, ◌<◌, ◌≤◌}
use mathlib.Core.Path.{◌≡◌, refl, ◌∙◌}
use mathlib.Core.Logic.{◌⊎◌, inl, inr}
use mathlib.Core.Bool.{Bool, true, false, ◌||◌}
use mathlib.Core.List.{List}
use native.Mathlib.Omega.{arith}
use lib.Dec.{ltb}
use lib.ListN.{length}
use borrow.Author.Tests.{le-ltb}
use Rattle.papers.specs.declared.Answer.{Answer}
use Rattle.papers.specs.Bounds.{program_columns, program_rows}
use Rattle.papers.specs.Refusals.{answer, passed, refused, first}
use Rattle.papers.specs.Job.{Job}
use Rattle.papers.specs.Numbers.{Read, got, bad}
use Rattle.papers.specs.Key.{key_read_from}
use Rattle.papers.specs.Check.{checked}
use Rattle.papers.specs.Text.{buffers}
use Rattle.papers.specs.Call.{SolverCall, readable_test, sizes_test, call_refusals, key_checked, solver_answer, called, unreadable, sizes_over}
use Rattle.list_laws.proofs.Tests.{below_or}
use Rattle.job_laws.proofs.Firsts.{first_passes, first-refuses, first-passed-iff, refused-if, passed-if}
use Rattle.call_laws.proofs.Bounded.{Within, within, check-bounded}
use Rattle.call_laws.proofs.Lengths.{most-short}
use Rattle.refusal_laws.proofs.Tests.{below-iff, either-iff}

module _ (call : SolverCall) where
  -- ---- the answer, by how the key reads

  pub call-refused : {a : Answer} → first call_refusals call ≡ refused a → solver_answer call ≡ a
  unfolding solver_answer
  call-refused e = rw (e, solver_answer)

  -- 27: the key does not read through
  pub call-unreadable : {number place : ℕ} → key_read_from call.key ≡ bad number place → solver_answer call ≡ answer 27 0 0
  unfolding call_refusals readable_test
  call-unreadable e = call-refused (first-refuses unreadable _ call (rw (e, readable_test)))

  module _ {job : Job} {at : ℕ} (e : key_read_from call.key ≡ got job at) where
    abbrev is_over : Bool
    is_over = ltb program_columns job.n || ltb program_rows (length job.rows)

    reads-through : readable_test call ≡ passed
    unfolding readable_test
    reads-through = rw (e, readable_test)

    -- 26: the job has more columns or rows than the sizes
    over : is_over ≡ true → solver_answer call ≡ answer 26 0 0
    unfolding call_refusals sizes_test
    over h =
        call-refused (first_passes unreadable _ call reads-through ∙ first-refuses sizes_over _ call
        (rw (e, sizes_test) (refused-if is_over _ h)))

    -- else the call answers what the check answers
    fits : is_over ≡ false → solver_answer call ≡ (checked job call.plan buffers).answered
    unfolding call_refusals sizes_test solver_answer key_checked
    fits h =
        let q : first call_refusals call ≡ passed = (first-passed-iff call_refusals call).1
        (reads-through, (rw (e, sizes_test) (passed-if is_over _ h), tt)) in
        rw (q, solver_answer, e, key_checked)

    pub call-over : (program_columns < job.n) ⊎ (program_rows < length job.rows) → solver_answer call ≡ answer 26 0 0
    call-over h = over ((either-iff _ _ (below-iff program_columns job.n) (below-iff program_rows (length job.rows))).1 h)

    pub call_fits : job.n ≤ program_columns → length job.rows ≤ program_rows → solver_answer call ≡ (checked job call.plan buffers).answered
    call_fits h g = fits (rw (le-ltb program_columns job.n h, le-ltb program_rows (length job.rows) g))

  -- ---- its bounds

  -- the place is below 2^32, since the sizes bound what a check can reach
  pub call-bounded : Within 27 (2 ^ 20) (solver_answer call)
  call-bounded = go (key_read_from call.key) refl
    where
      go : (x : Read Job) → key_read_from call.key ≡ x → Within 27 (2 ^ 20) (solver_answer call)
      go (bad number place) e = within 27 0 0 (call-unreadable e) (omega arith) (omega arith)
      go (got job at) e = sized (below_or program_columns job.n) (below_or program_rows (length job.rows))
        where
          sized : (program_columns < job.n) ⊎ (job.n ≤ program_columns) → (program_rows < length job.rows) ⊎ (length job.rows ≤ program_rows)
              → Within 27 (2 ^ 20) (solver_answer call)
          sized (inl h) r = within 26 0 0 (call-over e (inl h)) (omega arith) (omega arith)
          sized (inr h) (inl g) = within 26 0 0 (call-over e (inr g)) (omega arith) (omega arith)
          sized (inr h) (inr g) =
              let w = check-bounded (record { job = job; plan = call.plan; lent = buffers }) in
              rw (call_fits e h g) (record {
                number = omega (arith, w.number);
                place = omega (arith, w.place, most-short job.n program_columns job.n h);
              })

-- number and place can be computed from the one number
pub called-decodes : (key plan : List ℕ)
    → (called key plan / 2 ^ 32 ≡ (solver_answer (record { key = key; plan = plan })).number) × (called key plan % 2 ^ 32 ≡ (solver_answer
    (record { key = key; plan = plan })).place)
unfolding called
called-decodes key plan =
    let w = call-bounded (record { key = key; plan = plan }) in
    let p = w.place in
    (omega arith, omega arith)
