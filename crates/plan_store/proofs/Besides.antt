-- Proves that bytes stored or refused in their slice are stored or refused beside the slices of the analysis.
-- Assumes nothing.
use Prim.Native.Nat.{ℕ, ◌<◌, ◌≤◌}
use mathlib.Core.Path.{◌≡◌, sym, ap, ◌∙◌}
use mathlib.Core.Logic.{◌≢◌, ◌⊎◌, inl, inr}
use mathlib.Core.List.{List, []}
use native.Mathlib.Omega.{arith}
use lib.ListN.{length}
use Rattle.papers.specs.declared.Answer.{Answer}
use Rattle.papers.specs.Lists.{zeros, then_zeros}
use Rattle.papers.specs.Refusals.{answer, Outcome}
use Rattle.papers.specs.Analysis.{Lent, all_zero, PlanLent, plan_zero, bytes_short}
use Rattle.list_laws.proofs.Tests.{below_or}
use Rattle.job_laws.proofs.Firsts.{first-none, first-last, over-refuses, over-passes-iff}
use Rattle.job_laws.proofs.Outcomes.{outcome-late, outcome-done}
use Rattle.write_stored.specs.Stored.{stored}
use Rattle.write_stored.proofs.Stores.{short-is, whole_is}
use Rattle.plan_store.specs.Beside.{stored_beside}

module _ (written : List ℕ) (slices : PlanLent) where
  pub beside-short : length slices.bytes < length written
      → stored_beside written slices ≡ record {
        answered = answer 10 0 (length written);
        lent = record {
          analysis = all_zero slices.analysis;
          bytes = zeros slices.bytes;
        };
      }
  unfolding stored_beside plan_zero
  beside-short h =
      outcome-late [] _ _ plan_zero slices slices (first-none slices)
      (first-last (bytes_short (λ (lent : PlanLent). written) (λ lent. lent.bytes)) slices ∙ over-refuses (length slices.bytes) (length written)
      (answer 10 0 (length written)) h)

  pub beside-whole : length written ≤ length slices.bytes
      → stored_beside written slices ≡ record {
        answered = answer 0 0 (length written);
        lent = record {
          analysis = slices.analysis;
          bytes = then_zeros written slices.bytes;
        };
      }
  unfolding stored_beside
  beside-whole h =
      outcome-done [] _ _ plan_zero slices slices (first-none slices)
      (first-last (bytes_short (λ (lent : PlanLent). written) (λ lent. lent.bytes)) slices ∙ (over-passes-iff (length slices.bytes) (length written)
      (answer 10 0 (length written))).1 h)

  module _ {r : Answer} {bytes : List ℕ} (e : ◌≡◌ {A = Outcome (List ℕ)} (record { answered = r; lent = bytes }) (stored written slices.bytes)) where
    answered : {b : Answer} {l : List ℕ} → stored written slices.bytes ≡ record { answered = b; lent = l } → r ≡ b
    answered f = ap (λ (o : Outcome (List ℕ)). o.answered) (e ∙ f)

    left : {b : Answer} {l : List ℕ} → stored written slices.bytes ≡ record { answered = b; lent = l } → bytes ≡ l
    left f = ap (λ (o : Outcome (List ℕ)). o.lent) (e ∙ f)

    numbered : {b : Answer} → r ≡ b → r.number ≡ b.number
    numbered f = ap (λ (a : Answer). a.number) f

    -- 10
    pub refused-beside : {after : Lent} → r.number ≢ 0 → after ≡ all_zero slices.analysis
        → ◌≡◌ {A = Outcome PlanLent} (record { answered = r; lent = record { analysis = after; bytes = bytes } }) (stored_beside written slices)
    refused-beside {after} z a = go (below_or (length slices.bytes) (length written))
      where
        go : (length slices.bytes < length written) ⊎ (length written ≤ length slices.bytes)
            → ◌≡◌ {A = Outcome PlanLent} (record { answered = r; lent = record { analysis = after; bytes = bytes } }) (stored_beside written slices)
        go (inl h) = let f = short-is written slices.bytes h in rw (a, answered f, left f) (sym (beside-short h))
        go (inr h) = absurd (z (numbered (answered (whole_is written slices.bytes h))))

    -- done
    pub done-beside : r.number ≡ 0
        → ◌≡◌ {A = Outcome PlanLent} (record { answered = r; lent = record { analysis = slices.analysis; bytes = bytes } })
        (stored_beside written slices)
    done-beside z = go (below_or (length slices.bytes) (length written))
      where
        go : (length slices.bytes < length written) ⊎ (length written ≤ length slices.bytes)
            → ◌≡◌ {A = Outcome PlanLent} (record { answered = r; lent = record { analysis = slices.analysis; bytes = bytes } })
            (stored_beside written slices)
        go (inl h) = absurd (omega (arith, numbered (answered (short-is written slices.bytes h))))
        go (inr h) = let f = whole_is written slices.bytes h in rw (answered f, left f) (sym (beside-whole h))
