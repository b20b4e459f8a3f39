-- Proves the outcome of a listing by the length of its slice: 7 if it is too short; else the cleared slice gets what is printed, which fits.
-- Assumes nothing.
use Prim.Native.Nat.{ℕ, ◌<◌, ◌≤◌}
use mathlib.Core.Path.{◌≡◌, refl, sym, ap, ◌∙◌}
use mathlib.Core.List.{List, []}
use native.Mathlib.Omega.{arith}
use lib.ListN.{length, length-replicate}
use borrow.Author.Tests.{lt-ltb, le-ltb}
use Rattle.papers.specs.declared.Answer.{Answer}
use Rattle.papers.specs.Bounds.{listing_bytes}
use Rattle.papers.specs.Lists.{zeros}
use Rattle.papers.specs.Refusals.{answer, passed, refused, first, Outcome}
use Rattle.papers.specs.Analysis.{some_short}
use Rattle.papers.specs.Text.{Input, program_prints, ListingCall, listing_lengths, listing_early, listing_done, listed}
use Rattle.list_laws.specs.Wrote.{Wrote}
use Rattle.list_laws.proofs.Stores.{sets-zeros}
use Rattle.job_laws.proofs.Firsts.{refused-if, passed-if, first-last}
use Rattle.job_laws.proofs.Outcomes.{outcome-early, outcome-done}
use Rattle.listing_laws.proofs.Program.{program-fits}

module _ (input : Input) (bytes : List ℕ) where
  abbrev call : ListingCall
  call = record { input = input; bytes = bytes }

  -- a slice that is too short is refused; one that is long enough passes
  short-refused : length bytes < listing_bytes → first listing_early call ≡ refused (answer 7 0 0)
  unfolding listing_early some_short
  short-refused h = first-last _ call ∙ refused-if (some_short (listing_lengths call)) _ (rw (lt-ltb (length bytes) listing_bytes h))

  long-passed : listing_bytes ≤ length bytes → first listing_early call ≡ passed
  unfolding listing_early some_short
  long-passed h = first-last _ call ∙ passed-if (some_short (listing_lengths call)) _ (rw (le-ltb (length bytes) listing_bytes h))

  -- 7
  pub way-short : {a : Answer} → length bytes < listing_bytes → a ≡ answer 7 0 0 → record { answered = a; lent = bytes } ≡ listed input bytes
  unfolding listed
  way-short h e = rw e (sym (outcome-early listing_early [] listing_done zeros call bytes (short-refused h)))

  module _ (h : listing_bytes ≤ length bytes) {cleared : List ℕ} (z : cleared ≡ zeros bytes) where
    -- what is printed fits
    pub prints-fit : length (program_prints input) ≤ length cleared
    prints-fit = omega (arith, program-fits input, ap length z, length-replicate {A = ℕ} (length bytes) 0)

    -- done
    pub way-printed : {r : ℕ} {after : List ℕ} {a : Answer} → Wrote (program_prints input) cleared after 0 r → a ≡ answer 0 0 r
        → ◌≡◌ {A = Outcome (List ℕ)} (record { answered = a; lent = after }) (listed input bytes)
    unfolding listed listing_done first
    way-printed {r} w e =
        let fits = program-fits input in
        let counted : r ≡ length (program_prints input) = omega (arith, w.place) in
        rw (e, counted, w.writes, z, sets-zeros (program_prints input) bytes (omega arith))
        (sym (outcome-done listing_early [] listing_done zeros call bytes (long-passed h) refl))
