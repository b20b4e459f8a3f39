-- Proves the outcome of a run for each way out: an early refusal leaves the stack slice as it was, or all pass and the steps decide.
-- Assumes nothing.
use Prim.Native.Nat.{ℕ, ◌<◌, ◌≤◌}
use mathlib.Core.Path.{◌≡◌, sym, ◌∙◌}
use mathlib.Core.Bool.{Bool, true, false}
use mathlib.Core.List.{List}
use native.Mathlib.Omega.{arith}
use lib.Dec.{ltb}
use lib.ListN.{length}
use Rattle.papers.specs.declared.Answer.{Answer}
use Rattle.papers.specs.Bounds.{max_columns}
use Rattle.papers.specs.Lists.{zeros}
use Rattle.papers.specs.Refusals.{answer, passed, refused, on, first, EndsAs}
use Rattle.papers.specs.Job.{columns_over}
use Rattle.papers.specs.Analysis.{some_short, slice_short}
use Rattle.papers.specs.Run.{RunCall, run_fixed, run_lengths, run_early, run_late, run_done, ran}
use Rattle.job_laws.specs.Passed.{starts_test, rows_test}
use Rattle.job_laws.proofs.Firsts.{first-passed-iff, first_passes, first-refuses, first-last, over-refuses, over-passes-iff}
use Rattle.job_laws.proofs.Lengths.{short-here, short-later, short-last, long-iff, lengths-pass-iff, lengths-refuse}
use Rattle.job_laws.proofs.Outcomes.{outcome-early, outcome-behind}
use Rattle.run_steps.specs.Steps.{StepsGiven, answer_of_steps}
use Rattle.run_steps.proofs.Answers.{from-steps}

-- ---- 7: one of the columns, the pops and the stack slice has fewer than n places

module _ (n : ℕ) (columns pops stack : List ℕ) where
  pub columns-short : length columns < n → true ≡ some_short (run_fixed n columns pops stack)
  columns-short h = sym (short-here _ _ h)

  module _ (a : n ≤ length columns) where
    pub pops-short : length pops < n → true ≡ some_short (run_fixed n columns pops stack)
    pops-short h = sym (short-later _ _ a ∙ short-here _ _ h)

    pub stack-short : n ≤ length pops → ltb (length stack) n ≡ some_short (run_fixed n columns pops stack)
    stack-short h = sym (short-later _ _ a ∙ short-later _ _ h ∙ short-last _)

-- ---- the tests before the steps

module _ (call : RunCall) where
  abbrev n : ℕ
  n = call.n

  -- 1
  pub run-many : max_columns < n → refused (answer 1 0 0) ≡ first run_early call
  unfolding run_early
  run-many h = sym (first-refuses _ _ call (over-refuses max_columns n (answer 1 0 0) h))

  module _ (few : n ≤ max_columns) where
    columns-pass : columns_over.test n ≡ passed
    columns-pass = (over-passes-iff max_columns n (answer 1 0 0)).1 few

    -- 4
    pub run-starts : {a : Answer} → refused a ≡ starts_test n call.starts call.rows → refused a ≡ first run_early call
    unfolding run_early
    run-starts e = sym (first_passes _ _ call columns-pass ∙ first-refuses _ _ call (sym e))

    module _ (s : passed ≡ starts_test n call.starts call.rows) where
      -- 5 and 6
      pub run-rows : {a : Answer} → refused a ≡ rows_test n call.starts call.rows → refused a ≡ first run_early call
      unfolding run_early
      run-rows e =
          sym (first_passes _ _ call columns-pass ∙ first_passes _ _ call (sym s) ∙ first-refuses _ _ call (sym e))

      module _ (r : passed ≡ rows_test n call.starts call.rows) where
        lists-pass : first run_early call ≡ slice_short.test (run_lengths call)
        unfolding run_early
        lists-pass =
            first_passes _ _ call columns-pass
            ∙ first_passes _ _ call (sym s)
            ∙ first_passes _ _ call (sym r)
            ∙ first-last (on run_lengths slice_short) call

        -- 7
        module _ {b : Bool} (d : b ≡ some_short (run_lengths call)) where
          pub run_short : b ≡ true → refused (answer 7 0 0) ≡ first run_early call
          run_short h = sym (lists-pass ∙ lengths-refuse (run_lengths call) (sym d ∙ h))

          pub run-passes : b ≡ false → passed ≡ first run_early call
          run-passes h = sym (lists-pass ∙ (lengths-pass-iff (run_lengths call)).1 ((long-iff (run_lengths call)).0 (sym d ∙ h)))

  -- ---- from the steps on

  -- the tests before the steps pass, so the steps may begin
  pub steps-given : passed ≡ first run_early call → StepsGiven n call.starts call.rows call.columns call.pops call.stack
  unfolding run_early
  steps-given e =
      let each = (first-passed-iff run_early call).0 (sym e) in
      let long = (lengths-pass-iff (run_lengths call)).0 each.1.1.1.0 in
      record {
        tested = record {
          few = (over-passes-iff max_columns n (answer 1 0 0)).0 each.0;
          starts-pass = each.1.0;
          rows_pass = each.1.1.0;
        };
        columns-long = omega (arith, long);
        pops-long = omega (arith, long);
        stack-long = omega (arith, long);
      }

  -- an early refusal leaves the stack slice as it was
  pub run-refused : {a : Answer} {stack : List ℕ} → refused a ≡ first run_early call → stack ≡ call.stack → EndsAs a stack (ran call)
  unfolding ran
  run-refused {a} e same = rw same (sym (outcome-early run_early run_late run_done zeros call call.stack (sym e)))

  -- the steps decide
  pub run-steps : passed ≡ first run_early call → {a : Answer} {after : List ℕ} → a ≡ answer_of_steps call → after ≡ zeros call.stack
      → EndsAs a after (ran call)
  unfolding ran
  run-steps p e f = rw (e, f) (sym (from-steps call) ∙ sym (outcome-behind run_early run_late run_done zeros call call.stack (sym p)))
