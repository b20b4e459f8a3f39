-- Defines the lent slices, the refusals about them and about the limit (7 to 10), and the whole outcome of three entry points: writing a
-- key, an analysis, and writing a plan.
-- Assumes nothing.
use Rattle.std.specs.Prelude.{ℕ, ◌+◌, ◌<◌, ◌≤◌, ◌⊎◌, Bool, false, ◌||◌, List, [], ◌∷◌, ◌++◌, map, ltb, length, take}
use Rattle.papers.specs.Bounds.{work_length_for}
use Rattle.papers.specs.Lists.{up_to, flat, starts_counted_from, zeros, then_zeros}
use Rattle.papers.specs.Refusals.{answer, Refusal, when, exceeds, on, of, Outcome, outcome}
use Rattle.papers.specs.Job.{Job, pattern, job_refusals}
use Rattle.papers.specs.Tree.{parent}
use Rattle.papers.specs.Key.{key_of}
use Rattle.papers.specs.Plan.{Plan, columns_in, pops_in, plan_of, bytes_of_plan}
use Rattle.papers.specs.declared.Answer.{Answer}

-- ---- lent slices

-- the slices that an analysis or a check is lent: its outputs, and work
pub record Lent : Type 0 where
  pub parents : List ℕ
  pub order : List ℕ
  pub pops : List ℕ
  pub factor_starts : List ℕ
  pub factor_rows : List ℕ
  pub work : List ℕ

-- all of each lent slice is zero
unfoldable pub all_zero : Lent → Lent
all_zero lent =
    record {
      parents = zeros lent.parents;
      order = zeros lent.order;
      pops = zeros lent.pops;
      factor_starts = zeros lent.factor_starts;
      factor_rows = zeros lent.factor_rows;
      work = zeros lent.work;
    }

-- done: each output slice holds its part of a plan, then zeros, and work is zero
unfoldable pub holding_plan : Job → Plan → Lent → Lent
holding_plan job plan lent =
    record {
      parents = then_zeros (map (parent (pattern job)) (up_to job.n)) lent.parents;
      order = then_zeros (columns_in plan.steps) lent.order;
      pops = then_zeros (pops_in plan.steps) lent.pops;
      factor_starts = then_zeros (starts_counted_from 0 plan.lists) lent.factor_starts;
      factor_rows = then_zeros (flat plan.lists) lent.factor_rows;
      work = zeros lent.work;
    }

-- the part of a slice that holds a written key or plan: as many bytes as the answer counts
abbrev pub written_part : Answer → List ℕ → List ℕ
written_part a bytes = take a.count bytes

-- ---- 7: fixed lengths

-- a slice that has a fixed length: how long it is, and how long it must be
pub record Fixed : Type 0 where
  pub long : ℕ
  pub least : ℕ

-- the fixed lengths for n columns, beside the lengths of parents, order, pops, factor starts and work
abbrev pub fixed_for : ℕ → ℕ → ℕ → ℕ → ℕ → ℕ → List Fixed
fixed_for n parents order pops starts work =
    record { long = parents; least = n }
    ∷ record { long = order; least = n }
    ∷ record { long = pops; least = n }
    ∷ record { long = starts; least = n + 1 }
    ∷ record { long = work; least = work_length_for n }
    ∷ []

-- the fixed lengths of the lent slices
abbrev pub fixed_lengths : ℕ → Lent → List Fixed
fixed_lengths n lent =
    fixed_for n (length lent.parents) (length lent.order) (length lent.pops) (length lent.factor_starts) (length lent.work)

-- tests whether some slice is too short
unfoldable pub some_short : List Fixed → Bool
some_short [] = false
some_short (x ∷ xs) = ltb x.long x.least || some_short xs

-- some slice is too short
abbrev pub TooShort : List Fixed → Type 0
TooShort [] = ⊥
TooShort (x ∷ xs) = (x.long < x.least) ⊎ TooShort xs

-- every slice is long enough
abbrev pub LongEnough : List Fixed → Type 0
LongEnough [] = Unit {0}
LongEnough (x ∷ xs) = (x.least ≤ x.long) × LongEnough xs

-- 7: a lent slice is below its fixed length
abbrev pub slice_short : Refusal (List Fixed)
slice_short = when some_short TooShort (λ slices. answer 7 0 0)

-- ---- 1 to 7

-- a job, and the slices that must have a fixed length
pub record EarlyCall : Type 0 where
  pub job : Job
  pub slices : List Fixed

-- the refusals of the job, then 7
unfoldable pub early_refusals : List (Refusal EarlyCall)
early_refusals = of (λ call. call.job) job_refusals ++ (on (λ call. call.slices) slice_short ∷ [])

-- the same of a job and the lent slices
abbrev pub early_of : Job → Lent → EarlyCall
early_of job lent = record { job = job; slices = fixed_lengths job.n lent }

-- ---- 8 to 10

-- 8: the factor rows exceed the lent slice; the count is the rows needed
abbrev pub rows_exceed : {C : Type 0} → (C → ℕ) → (C → Lent) → Refusal C
rows_exceed needed lent = exceeds 8 needed (λ call. length (lent call).factor_rows)

-- 9: the peak is over the limit; the count is the peak
abbrev pub peak_over : {C : Type 0} → (C → ℕ) → (C → Job) → Refusal C
peak_over peak job = exceeds 9 peak (λ call. (job call).limit)

-- 10: the key or the plan does not fit the byte slice; the count is the bytes needed
abbrev pub bytes_short : {C : Type 0} → (C → List ℕ) → (C → List ℕ) → Refusal C
bytes_short written bytes = exceeds 10 (λ call. length (written call)) (λ call. length (bytes call))

-- ---- a key: 1 to 6, then 10

-- the input of writing a key: a job, and the byte slice lent
pub record KeyCall : Type 0 where
  pub job : Job
  pub bytes : List ℕ

-- the early refusals of writing a key: those of the job
unfoldable pub key_early : List (Refusal KeyCall)
key_early = of (λ call. call.job) job_refusals

-- the late one: 10
unfoldable pub key_late : List (Refusal KeyCall)
key_late = bytes_short (λ call. key_of call.job) (λ call. call.bytes) ∷ []

-- a key is written: the slice holds its bytes, then zeros, and the count is the number of these bytes
unfoldable pub key_done : KeyCall → Outcome (List ℕ)
key_done call = let key = key_of call.job in record { answered = answer 0 0 (length key); lent = then_zeros key call.bytes }

-- the whole outcome of writing a key
unfoldable pub key_written : Job → List ℕ → Outcome (List ℕ)
key_written job bytes = outcome key_early key_late key_done zeros (record { job = job; bytes = bytes }) bytes

-- ---- an analysis: 1 to 9

-- the input of an analysis: a job, and the slices lent
pub record AnalysisCall : Type 0 where
  pub job : Job
  pub lent : Lent

-- the early refusals of an analysis: 1 to 7
unfoldable pub analysis_early : List (Refusal AnalysisCall)
analysis_early = of (λ call. early_of call.job call.lent) early_refusals

-- 8 of an analysis
abbrev pub analysis_rows : Refusal AnalysisCall
analysis_rows = rows_exceed (λ call. length (flat (plan_of call.job).lists)) (λ call. call.lent)

-- the late ones: 8 and 9
unfoldable pub analysis_late : List (Refusal AnalysisCall)
analysis_late = analysis_rows ∷ peak_over (λ call. (plan_of call.job).peak) (λ call. call.job) ∷ []

-- those before 9
unfoldable pub before_peak : List (Refusal AnalysisCall)
before_peak = analysis_early ++ (analysis_rows ∷ [])

-- an analysis is done: the slices hold the job's plan, and the count is the peak
unfoldable pub analysis_done : AnalysisCall → Outcome Lent
analysis_done call = let plan = plan_of call.job in record { answered = answer 0 0 plan.peak; lent = holding_plan call.job plan call.lent }

-- the whole outcome of an analysis
unfoldable pub analysed : Job → Lent → Outcome Lent
analysed job lent = outcome analysis_early analysis_late analysis_done all_zero (record { job = job; lent = lent }) lent

-- ---- a plan: as an analysis, then 10

-- what writing a plan is lent: the slices of an analysis, and one for the bytes
pub record PlanLent : Type 0 where
  pub analysis : Lent
  pub bytes : List ℕ

-- the input of writing a plan: a job, and the slices lent
pub record PlanCall : Type 0 where
  pub job : Job
  pub slices : PlanLent

-- the analysis that writing a plan begins with
abbrev pub analysis_of : PlanCall → AnalysisCall
analysis_of call = record { job = call.job; lent = call.slices.analysis }

-- the early refusals of writing a plan: those of the analysis
unfoldable pub plan_early : List (Refusal PlanCall)
plan_early = of analysis_of analysis_early

-- the late ones: those of the analysis, then 10
unfoldable pub plan_late : List (Refusal PlanCall)
plan_late = of analysis_of analysis_late ++ (bytes_short (λ call. bytes_of_plan call.job (plan_of call.job)) (λ call. call.slices.bytes) ∷ [])

-- a plan is written: the slices hold the analysis and the bytes, and the count is the number of these bytes
unfoldable pub plan_done : PlanCall → Outcome PlanLent
plan_done call =
    let plan = plan_of call.job in
    let written = bytes_of_plan call.job plan in
    record {
      answered = answer 0 0 (length written);
      lent = record { analysis = holding_plan call.job plan call.slices.analysis; bytes = then_zeros written call.slices.bytes };
    }

-- after a late refusal every lent slice is zero
unfoldable pub plan_zero : PlanLent → PlanLent
plan_zero slices = record { analysis = all_zero slices.analysis; bytes = zeros slices.bytes }

-- the whole outcome of writing a plan
unfoldable pub plan_written : Job → PlanLent → Outcome PlanLent
plan_written job slices = outcome plan_early plan_late plan_done plan_zero (record { job = job; slices = slices }) slices
