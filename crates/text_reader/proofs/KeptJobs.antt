-- Proves that a job that is not refused has no row that narrowing changes, so the kept job is the job; and that narrowing changes neither the
-- analysis of a job nor what is printed of it.
-- Assumes nothing.
use Prim.Native.Nat.{ℕ, zero, suc, ◌≤◌}
use mathlib.Core.Path.{◌≡◌, refl, sym, ap, ◌∙◌}
use mathlib.Core.List.Memᴰ
use mathlib.Core.List.{List, [], ◌∷◌, map, map-append}
use native.Mathlib.Omega.{arith}
use Rattle.papers.specs.declared.Answer.{Answer}
use Rattle.papers.specs.Bounds.{max_columns}
use Rattle.papers.specs.Lists.{◌∈◌, flat}
use Rattle.papers.specs.Refusals.{Verdict, passed, refused, of, first}
use Rattle.papers.specs.Job.{Job, column_of, job_refusals, job_of, head_in}
use Rattle.papers.specs.Key.{lists_of}
use Rattle.papers.specs.Analysis.{Lent, all_zero, EarlyCall, early_refusals, early_of, AnalysisCall, analysis_early, analysis_late, analysis_done}
use Rattle.papers.specs.Analysis.{analysed}
use Rattle.papers.specs.Text.{job_printed}
use Rattle.job_laws.specs.Passed.{PassedLists, Passed}
use Rattle.list_laws.proofs.Stores.{flat-more}
use Rattle.job_laws.proofs.Laid.{lists-none, lists-more, rows-laid}
use Rattle.job_laws.proofs.Firsts.{first-append-refused, first_of}
use Rattle.job_laws.proofs.Outcomes.{outcome-early}
use Rattle.job_laws.proofs.Numbered.{job-numbered}
use Rattle.job_laws.proofs.Passed.{passes-iff}
use Rattle.text_lines.specs.Narrowed.{narrowed}
use Rattle.text_reader.specs.Reading.{kept_job}
use Rattle.text_reader.proofs.Narrow.{kept-tests}

-- ---- a job that passes

-- rows that 32 bits hold are kept as they are
small-kept : (bound : ℕ) (rs : List ℕ) → bound ≤ max_columns → ((i : ℕ) → i ∈ rs → i ≤ bound) → map narrowed rs ≡ rs
small-kept bound [] l h = refl
small-kept bound (r ∷ rs) l h =
    let low = h r (Memᴰ.head refl) in
    let e : narrowed r ≡ r = omega arith in
    let tail = small-kept bound rs l (λ i m. h i (Memᴰ.tail m)) in
    cc

module _ (n : ℕ) (starts rows : List ℕ) (few : n ≤ max_columns) (p : PassedLists n starts rows) where
  columns-kept : (m : ℕ) → m ≤ n → map narrowed (flat (lists_of m (column_of starts rows))) ≡ flat (lists_of m (column_of starts rows))
  unfolding flat
  columns-kept zero l = rw (lists-none (column_of starts rows))
  columns-kept (suc m) l =
      let column = column_of starts rows (suc m) in
      rw (
        lists-more (column_of starts rows) m,
        flat-more (lists_of m (column_of starts rows)) column,
        map-append narrowed (flat (lists_of m (column_of starts rows))) column,
        columns-kept m (omega arith),
        small-kept n column few (p.within (suc m) (omega arith) l),
      )

  rows-kept : map narrowed rows ≡ rows
  rows-kept = rw (rows-laid p.whole) at (columns-kept n (omega arith))

-- a job that passes is kept as it is
pub kept-passed : (job : Job) → Passed job → kept_job job ≡ job
kept-passed job p =
    ap (job_of (head_in job) job.starts)
    (rows-kept job.n job.starts job.rows p.few p.lists)

-- ---- the analysis of a job, and what is printed of it

refused-analysed : (job : Job) (lent : Lent) {a : Answer} → first job_refusals job ≡ refused a
    → analysed job lent ≡ record { answered = a; lent = lent }
unfolding analysed analysis_early early_refusals
refused-analysed job lent e =
    let early : AnalysisCall → EarlyCall = λ c. early_of c.job c.lent in
    let part : EarlyCall → Job = λ c. c.job in
    let call : AnalysisCall = record { job = job; lent = lent } in
    outcome-early analysis_early analysis_late analysis_done all_zero call lent
    (first_of early early_refusals call
    ∙ first-append-refused (of part job_refusals) _ (early call) (first_of part job_refusals (early call) ∙ e))

-- narrowing changes neither
pub kept-analysed : (job : Job) (lent : Lent) → analysed (kept_job job) lent ≡ analysed job lent
kept-analysed job lent = go (first job_refusals job) refl
  where
    go : (v : Verdict) → first job_refusals job ≡ v → analysed (kept_job job) lent ≡ analysed job lent
    go passed e = ap (λ (j : Job). analysed j lent) (kept-passed job ((passes-iff job).0 e))
    go (refused a) e = refused-analysed (kept_job job) lent (kept-tests job ∙ e) ∙ sym (refused-analysed job lent e)

pub kept-printed : (job : Job) (lent : Lent)
    → job_printed (kept_job job) (analysed (kept_job job) lent).answered ≡ job_printed job (analysed job lent).answered
unfolding job_printed
kept-printed job lent = rw (kept-analysed job lent) (go (first job_refusals job) refl)
  where
    line : (a : Answer) (k : ℕ) → a.number ≡ k → 1 ≤ k → job_printed (kept_job job) a ≡ job_printed job a
    line a zero e h = absurd (omega arith)
    line a (suc k) e h = rw (e, job_printed)

    go : (v : Verdict) → first job_refusals job ≡ v → job_printed (kept_job job) (analysed job lent).answered ≡ job_printed job (analysed job lent).answered
    go passed e = ap (λ (j : Job). job_printed j (analysed job lent).answered) (kept-passed job ((passes-iff job).0 e))
    go (refused a) e =
        rw (refused-analysed job lent e) (line a a.number refl (rw e at (job-numbered job)).0)
