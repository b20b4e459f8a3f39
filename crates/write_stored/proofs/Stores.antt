-- Proves that bytes too many for a lent slice are refused with their number, and that bytes that fit are at its start, then zeros.
-- Assumes nothing.
use Prim.Native.Nat.{ℕ, ◌-◌, ◌<◌, ◌≤◌}
use mathlib.Core.Path.{◌≡◌, sym, ap, ◌∙◌}
use mathlib.Core.List.{List, [], ◌++◌}
use native.Mathlib.Omega.{arith}
use lib.ListN.{length, take, drop}
use Rattle.papers.specs.declared.Answer.{Answer}
use Rattle.papers.specs.Lists.{zeros, then_zeros}
use Rattle.papers.specs.Refusals.{answer, Outcome}
use Rattle.papers.specs.Analysis.{bytes_short}
use Rattle.list_laws.specs.Wrote.{Wrote}
use Rattle.list_laws.proofs.Writing.{wrote-long}
use Rattle.job_laws.proofs.Firsts.{first-none, first-last, over-refuses, over-passes-iff}
use Rattle.job_laws.proofs.Outcomes.{outcome-late, outcome-done}
use Rattle.list_laws.specs.From.{zeros_from}
use Rattle.list_laws.proofs.From.{cleared-from, stored-from}
use Rattle.write_stored.specs.Stored.{stored}

module _ (written bytes : List ℕ) where
  pub short-is : length bytes < length written → stored written bytes ≡ record { answered = answer 10 0 (length written); lent = zeros bytes }
  unfolding stored
  short-is h =
      outcome-late [] _ _ zeros bytes bytes (first-none bytes)
      (first-last (bytes_short (λ lent. written) (λ lent. lent)) bytes ∙ over-refuses (length bytes) (length written) (answer 10 0 (length written)) h)

  pub whole_is : length written ≤ length bytes
      → stored written bytes ≡ record { answered = answer 0 0 (length written); lent = then_zeros written bytes }
  unfolding stored
  whole_is h =
      outcome-done [] _ _ zeros bytes bytes (first-none bytes)
      (first-last (bytes_short (λ lent. written) (λ lent. lent)) bytes ∙ (over-passes-iff (length bytes) (length written) (answer 10 0 (length written))).1 h)

-- ---- bytes written from the start on: the slice holds as many as fit, and `needed` counts them all

module _ (written before : List ℕ) {entry : List ℕ} {needed : ℕ} (w : Wrote written before entry 0 needed) where
  counted : needed ≡ length written
  counted = omega (arith, w.place)

  same-places : length entry ≡ length before
  same-places = wrote-long w

  -- the bytes do not all fit
  pub finished-short : length entry < needed → {r : Answer} {after : List ℕ} → r ≡ answer 10 0 needed → after ≡ zeros entry
      → ◌≡◌ {A = Outcome (List ℕ)} (record { answered = r; lent = after }) (stored written before)
  finished-short h a z = rw (a, z, same-places, counted) (sym (short-is written before (omega (arith, same-places, counted))))

  module _ (h : needed ≤ length entry) where
    -- clears the places behind them
    pub finished-whole : {r : Answer} {rest : List ℕ} → r ≡ answer 0 0 needed → rest ≡ zeros (take (length entry - needed) (drop needed entry))
        → ◌≡◌ {A = Outcome (List ℕ)} (record { answered = r; lent = take needed entry ++ (rest ++ drop (length entry - needed) (drop needed entry)) })
        (stored written before)
    finished-whole a z =
        let fits : needed ≤ length before = omega (arith, same-places) in
        let left = cleared-from needed entry h z ∙ ap (zeros_from needed) w.writes ∙ stored-from written before (sym counted) fits in
        rw (left, a, counted) (sym (whole_is written before (omega (arith, counted))))
