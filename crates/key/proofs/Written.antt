-- Proves how the numbers of a key are written one after the other, up to its lists, and the outcomes of a stored key and of a refused job.
-- Assumes nothing.
use Prim.Native.Nat.{ℕ, ◌+◌, ◌*◌, ◌^◌, ◌<◌, ◌≤◌}
use mathlib.Core.Path.{◌≡◌, refl, sym, ◌∙◌}
use mathlib.Core.Logic.{⊎_elim}
use mathlib.Core.List.{List, ◌∷◌}
use native.Mathlib.Omega.{arith}
use lib.ListN.{length}
use Rattle.papers.specs.declared.Answer.{Answer}
use Rattle.papers.specs.Bounds.{edition, max_columns, max_groups}
use Rattle.papers.specs.Lists.{zeros}
use Rattle.papers.specs.Refusals.{passed, refused, first, EndsAs}
use Rattle.papers.specs.Job.{Job, pattern, job_refusals}
use Rattle.papers.specs.Numbers.{bytes_of, encode}
use Rattle.papers.specs.Key.{lists_numbers, lists_of, key_numbers, key_of}
use Rattle.papers.specs.Analysis.{KeyCall, key_done, key_written, key_early, key_late, bytes_short}
use Rattle.job_laws.specs.Passed.{Passed}
use Rattle.list_laws.specs.Wrote.{Wrote}
use Rattle.list_laws.proofs.Tests.{below_or}
use Rattle.list_laws.proofs.Writing.{Writes, writes-all, writes-last}
use Rattle.bytes_laws.proofs.Writing.{writes-number, writes-near}
use Rattle.job_laws.proofs.Firsts.{first_of, first-last, over-refuses, over-passes-iff}
use Rattle.job_laws.proofs.Outcomes.{outcome-early, outcome-late, outcome-done, job-passes-iff}
use Rattle.write_lists.proofs.Columns.{lists-few}
use Rattle.write_stored.specs.Stored.{stored}
use Rattle.write_stored.proofs.Stores.{short-is, whole_is}

-- ---- its numbers

-- the numbers of the lists, which are written behind edition, n, mark and limit
abbrev pub key_lists : Job → List ℕ
key_lists job = lists_numbers 1 (lists_of job.n (pattern job))

-- each number fits the groups
pub numbers_fit : (job : Job) → Passed job → (job.n < 2 ^ (7 * max_groups)) × (job.mark < 2 ^ (7 * max_groups)) × (job.limit < 2 ^ (7 * max_groups))
numbers_fit job p =
    let few = p.few in
    let marked = p.marked in
    let limited = p.limited in
    (omega arith, omega arith, omega arith)

-- the numbers are few
pub numbers-few : (job : Job) → Passed job → length (key_numbers job) ≤ (max_columns + 1) * max_columns + 4
unfolding key_numbers
numbers-few job p = omega (arith, lists-few p.few p.lists)

-- ---- writing them one after the other

module _ (job : Job) (d₀ : List ℕ) where
  -- these numbers of the key are left, and go to the places of d from k on
  abbrev pub Left : List ℕ → List ℕ → ℕ → Type 0
  Left xs d k = Writes (encode (key_numbers job)) d₀ 0 (encode xs) d k

  -- every place among them is small
  pub key-near : Passed job → {xs d : List ℕ} {k : ℕ} → Writes (encode (key_numbers job)) d₀ 0 xs d k → k < 2 ^ 60
  key-near p w = omega (arith, writes-near (key_numbers job) w, numbers-few job p)

  -- what is left of the key at each place
  at-start : Left (edition ∷ job.n ∷ job.mark ∷ job.limit ∷ key_lists job) d₀ 0
  unfolding key_numbers
  at-start = writes-all

  module _ {d₁ : List ℕ} {k₁ : ℕ} (p₁ : Wrote (bytes_of edition) d₀ d₁ 0 k₁) where
    pub behind-edition : Left (job.n ∷ job.mark ∷ job.limit ∷ key_lists job) d₁ k₁
    behind-edition = writes-number at-start refl p₁

    module _ {d₂ : List ℕ} {k₂ : ℕ} (p₂ : Wrote (bytes_of job.n) d₁ d₂ k₁ k₂) where
      pub behind-n : Left (job.mark ∷ job.limit ∷ key_lists job) d₂ k₂
      behind-n = writes-number behind-edition refl p₂

      module _ {d₃ : List ℕ} {k₃ : ℕ} (p₃ : Wrote (bytes_of job.mark) d₂ d₃ k₂ k₃) where
        pub behind-mark : Left (job.limit ∷ key_lists job) d₃ k₃
        behind-mark = writes-number behind-n refl p₃

        module _ {d₄ : List ℕ} {k₄ : ℕ} (p₄ : Wrote (bytes_of job.limit) d₃ d₄ k₃ k₄) where
          pub behind-limit : Left (key_lists job) d₄ k₄
          behind-limit = writes-number behind-mark refl p₄

          -- behind the lists nothing is left
          pub key-put : {d₅ : List ℕ} {k₅ : ℕ} → Wrote (encode (key_lists job)) d₄ d₅ k₄ k₅ → Wrote (key_of job) d₀ d₅ 0 k₅
          unfolding key_of
          key-put p₅ = writes-last behind-limit p₅

-- ---- the outcome

module _ (job : Job) (bytes₀ : List ℕ) where
  abbrev call : KeyCall
  call = record { job = job; bytes = bytes₀ }

  -- 1 to 6
  pub key-refused : {a : Answer} {bytes : List ℕ} → refused a ≡ first job_refusals job → bytes ≡ bytes₀ → EndsAs a bytes (key_written job bytes₀)
  unfolding key_written key_early
  key-refused e b =
      rw b (sym (outcome-early key_early key_late key_done zeros call bytes₀ (first_of (λ c. c.job) job_refusals call ∙ sym e)))

  module _ (p : Passed job) where
    early-passes : first key_early call ≡ passed
    unfolding key_early
    early-passes = (job-passes-iff (λ c. c.job) call).1 p

    last-test : first key_late call ≡ (bytes_short (λ lent. key_of job) (λ lent. lent)).test bytes₀
    unfolding key_late
    last-test = first-last _ call

    -- else the key is stored
    pub key-stored : key_written job bytes₀ ≡ stored (key_of job) bytes₀
    unfolding key_written key_done
    key-stored =
        let key = key_of job in
        ⊎_elim
        (λ (short : length bytes₀ < length key).
        outcome-late key_early key_late key_done zeros call bytes₀ early-passes (last-test ∙ over-refuses (length bytes₀) (length key) _ short) ∙ sym
        (short-is key bytes₀ short))
        (λ (whole : length key ≤ length bytes₀).
        outcome-done key_early key_late key_done zeros call bytes₀ early-passes (last-test ∙ (over-passes-iff (length bytes₀) (length key) _).1 whole)
        ∙ sym (whole_is key bytes₀ whole))
        (below_or (length bytes₀) (length key))
