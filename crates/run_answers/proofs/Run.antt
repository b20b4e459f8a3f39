-- Proves that a run answers exactly by its conditions: each test agrees with its condition.
-- Assumes nothing.
use mathlib.Core.Path.{refl}
use native.Mathlib.Omega.{arith}
use lib.ListN.{length}
use Rattle.papers.specs.Lists.{zeros}
use Rattle.papers.specs.Run.{RunCall, state_after, run_lists, run_lengths, run_early, run_late, run_done, ran}
use Rattle.refusal_laws.specs.Exactly.{Exactly}
use Rattle.refusal_laws.proofs.Agreements.{AgreeEach, ◌▸◌}
use Rattle.refusal_laws.proofs.Exactly.{outcome-exactly}
use Rattle.refusal_laws.proofs.Tests.{below-iff, agree-if}
use Rattle.refusal_laws.proofs.Rows.{rows_agree}
use Rattle.refusal_laws.proofs.Job.{columns-agree, starts-agree}
use Rattle.refusal_laws.proofs.Slices.{slices-agree}
use Rattle.run_answers.proofs.RunSteps.{steps-agree}

pub run-early-agree : (call : RunCall) → AgreeEach run_early call
unfolding run_early
run-early-agree call =
    columns-agree call.n
    ▸ λ p. starts-agree (run_lists call)
    ▸ λ p. rows_agree (run_lists call)
    ▸ λ p. slices-agree (run_lengths call)
    ▸ λ p. tt

pub run-late-agree : (call : RunCall) → AgreeEach run_late call
unfolding run_late
run-late-agree call =
    steps-agree call ▸ λ p. agree-if _ _ (omega arith) (below-iff 0 (length (state_after call call.n).held)) ▸ λ p. tt

-- a run is done, or refused, exactly by its conditions
pub run-exactly : (call : RunCall) → Exactly run_early run_late call call.stack (zeros call.stack) (run_done call) (ran call)
unfolding ran run_done
run-exactly call =
    outcome-exactly run_early run_late run_done zeros call call.stack (run-early-agree call) (λ p. run-late-agree call) (λ p. refl)
