-- Proves that the key, steps, lists and peak, one after the other, are the whole plan: behind each part the later parts are left. They are few enough
-- that every place among them stays small.
-- Assumes nothing.
use Prim.Native.Nat.{ℕ, ◌+◌, ◌*◌, ◌^◌, ◌<◌, ◌≤◌}
use mathlib.Core.Path.{refl, sym}
use mathlib.Core.List.{List, [], ◌∷◌, ◌++◌}
use native.Mathlib.Omega.{arith}
use lib.ListN.{length, length-append}
use Rattle.papers.specs.Bounds.{max_columns}
use Rattle.papers.specs.Job.{Job, column_of}
use Rattle.papers.specs.Numbers.{bytes_of, encode}
use Rattle.papers.specs.Key.{lists_numbers, lists_of, key_numbers, key_of}
use Rattle.papers.specs.Plan.{plan_numbers, bytes_of_plan}
use Rattle.job_laws.specs.Passed.{Passed}
use Rattle.list_laws.specs.Wrote.{Wrote}
use Rattle.list_laws.proofs.Writing.{wrote_as, Writes, writes-all, writes-none}
use Rattle.bytes_laws.proofs.Numbers.{encode-append}
use Rattle.bytes_laws.proofs.Writing.{encode-none, writes-number, writes-numbers, writes-near}
use Rattle.job_laws.proofs.Passed.{lists-iff}
use Rattle.write_lists.proofs.Columns.{lists-few}
use Rattle.key.proofs.Written.{numbers-few}
use Rattle.write_plan.specs.Lists.{plan_in, Writable}
use Rattle.write_plan.proofs.Steps.{pair_numbers, steps-few}

-- the numbers of the lists between these starts
abbrev pub lists_between : ℕ → List ℕ → List ℕ → List ℕ
lists_between n starts rows = lists_numbers 1 (lists_of n (column_of starts rows))

-- the numbers of the plan, its key's first
abbrev pub whole_numbers : Job → List ℕ → List ℕ → List ℕ → List ℕ → ℕ → List ℕ
whole_numbers job order pops starts rows peak = key_numbers job ++ plan_numbers (plan_in job.n order pops starts rows peak)

-- ---- how many there are

module _ {job : Job} {order pops starts rows : List ℕ} {peak : ℕ} (w : Writable job order pops starts rows peak) where
  valid : Passed job
  valid = w.passes

  pub few : job.n ≤ max_columns
  few = valid.few

  whole-few : length (whole_numbers job order pops starts rows peak) ≤ 2 * ((max_columns + 1) * max_columns) + 2 * max_columns + 5
  unfolding plan_numbers
  whole-few =
      let steps = pair_numbers order pops in
      let lists = lists_between job.n starts rows in
      let last = peak ∷ [] in
      omega (
        arith,
        few,
        w.all-steps,
        length-append (key_numbers job) (steps ++ (lists ++ last)),
        length-append steps (lists ++ last),
        length-append lists last,
        numbers-few job valid,
        lists-few few ((lists-iff job.n starts rows).0 (w.starts-pass, w.rows_pass)),
        steps-few order pops,
      )

  -- bounds every place among the bytes of the plan
  pub place-near : {d₀ left d : List ℕ} {k : ℕ} → Writes (encode (whole_numbers job order pops starts rows peak)) d₀ 0 left d k → k < 2 ^ 59
  place-near s = omega (arith, writes-near (whole_numbers job order pops starts rows peak) s, whole-few)

-- ---- writing the parts one behind the other

module _ (job : Job) (order pops starts rows : List ℕ) (peak : ℕ) (d₀ : List ℕ) where
  -- these numbers of the plan are left, and go to the places of d from k on
  abbrev pub Left : List ℕ → List ℕ → ℕ → Type 0
  Left xs d k = Writes (encode (whole_numbers job order pops starts rows peak)) d₀ 0 (encode xs) d k

  -- what is left of the plan behind each part
  module _ {d₁ : List ℕ} {k₁ : ℕ} (p₁ : Wrote (key_of job) d₀ d₁ 0 k₁) where
    pub behind-key : Left (pair_numbers order pops ++ (lists_between job.n starts rows ++ (peak ∷ []))) d₁ k₁
    unfolding key_of plan_numbers
    behind-key = writes-numbers (key_numbers job) _ writes-all refl p₁

    module _ {d₂ : List ℕ} {k₂ : ℕ} (p₂ : Wrote (encode (pair_numbers order pops)) d₁ d₂ k₁ k₂) where
      pub behind-steps : Left (lists_between job.n starts rows ++ (peak ∷ [])) d₂ k₂
      behind-steps = writes-numbers (pair_numbers order pops) _ behind-key refl p₂

      module _ {d₃ : List ℕ} {k₃ : ℕ} (p₃ : Wrote (encode (lists_between job.n starts rows)) d₂ d₃ k₂ k₃) where
        pub behind-lists : Left (peak ∷ []) d₃ k₃
        behind-lists = writes-numbers (lists_between job.n starts rows) _ behind-steps refl p₃

        -- behind the peak nothing is left
        pub plan-put : {d₄ : List ℕ} {k₄ : ℕ} → Wrote (bytes_of peak) d₃ d₄ k₃ k₄
            → Wrote (bytes_of_plan job (plan_in job.n order pops starts rows peak)) d₀ d₄ 0 k₄
        unfolding bytes_of_plan key_of
        plan-put p₄ =
            wrote_as (sym (encode-append (key_numbers job) (plan_numbers (plan_in job.n order pops starts rows peak))))
            (writes-none (writes-number behind-lists refl p₄) (encode-none refl))
