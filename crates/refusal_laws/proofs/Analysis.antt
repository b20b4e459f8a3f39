-- Proves that writing a key, an analysis, and writing a plan answer exactly by their conditions: every test agrees with its condition.
-- Assumes nothing.
use mathlib.Core.Path.{refl}
use native.Mathlib.Omega.{arith}
use Rattle.papers.specs.Lists.{zeros}
use Rattle.papers.specs.Job.{job_refusals}
use Rattle.papers.specs.Analysis.{all_zero, EarlyCall, early_refusals, early_of, KeyCall, key_early, key_late, key_done, key_written, AnalysisCall}
use Rattle.papers.specs.Analysis.{analysis_early}
use Rattle.papers.specs.Analysis.{analysis_late, analysis_done, analysed, PlanCall, analysis_of, plan_early, plan_late, plan_done, plan_zero, plan_written}
use Rattle.refusal_laws.specs.Exactly.{Exactly}
use Rattle.refusal_laws.proofs.Agreements.{AgreeEach, ◌▸◌, part-agree, agree-behind}
use Rattle.refusal_laws.proofs.Exactly.{outcome-exactly}
use Rattle.refusal_laws.proofs.Tests.{agree-exceeds}
use Rattle.refusal_laws.proofs.Job.{job-agree}
use Rattle.refusal_laws.proofs.Slices.{slices-agree}

-- ---- a key

pub key-early-agree : (call : KeyCall) → AgreeEach key_early call
unfolding key_early
key-early-agree call = part-agree (λ call. call.job) job_refusals call (job-agree call.job)

pub key-late-agree : (call : KeyCall) → AgreeEach key_late call
unfolding key_late
key-late-agree call = agree-exceeds 10 _ _ (omega arith) ▸ λ p. tt

-- a key is written, or refused, exactly by its conditions
pub key-exactly : (call : KeyCall)
    → Exactly key_early key_late call call.bytes (zeros call.bytes) (key_done call) (key_written call.job call.bytes)
unfolding key_written key_done
key-exactly call = outcome-exactly key_early key_late key_done zeros call call.bytes (key-early-agree call) (λ p. key-late-agree call) (λ p. refl)

-- ---- an analysis

-- 1 to 7
pub early-agree : (call : EarlyCall) → AgreeEach early_refusals call
unfolding early_refusals
early-agree call = agree-behind (λ call. call.job) job_refusals _ call (job-agree call.job) (λ p. slices-agree call.slices ▸ λ p. tt)

pub analysis-early-agree : (call : AnalysisCall) → AgreeEach analysis_early call
unfolding analysis_early
analysis-early-agree call = part-agree (λ call. early_of call.job call.lent) early_refusals call (early-agree (early_of call.job call.lent))

pub analysis-late-agree : (call : AnalysisCall) → AgreeEach analysis_late call
unfolding analysis_late
analysis-late-agree call = agree-exceeds 8 _ _ (omega arith) ▸ λ p. agree-exceeds 9 _ _ (omega arith) ▸ λ p. tt

-- an analysis is done, or refused, exactly by its conditions
pub analyse-exactly : (call : AnalysisCall)
    → Exactly analysis_early analysis_late call call.lent (all_zero call.lent) (analysis_done call) (analysed call.job call.lent)
unfolding analysed analysis_done
analyse-exactly call =
    outcome-exactly analysis_early analysis_late analysis_done all_zero call call.lent (analysis-early-agree call) (λ p. analysis-late-agree call)
    (λ p. refl)

-- ---- a plan

pub plan-early-agree : (call : PlanCall) → AgreeEach plan_early call
unfolding plan_early
plan-early-agree call = part-agree analysis_of analysis_early call (analysis-early-agree (analysis_of call))

pub plan-late-agree : (call : PlanCall) → AgreeEach plan_late call
unfolding plan_late
plan-late-agree call =
    agree-behind analysis_of analysis_late _ call (analysis-late-agree (analysis_of call)) (λ p. agree-exceeds 10 _ _ (omega arith) ▸ λ p. tt)

-- a plan is written, or refused, exactly by its conditions
pub write-plan-exactly : (call : PlanCall)
    → Exactly plan_early plan_late call call.slices (plan_zero call.slices) (plan_done call) (plan_written call.job call.slices)
unfolding plan_written plan_done
write-plan-exactly call =
    outcome-exactly plan_early plan_late plan_done plan_zero call call.slices (plan-early-agree call) (λ p. plan-late-agree call) (λ p. refl)
