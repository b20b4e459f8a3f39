-- Defines what comparing bytes with a plan finds.
-- Assumes nothing.
use Rattle.std.specs.Prelude.{ℕ, ◌+◌, true, false, List, [], ◌∷◌, ltb, eqb, length, get_or, Result, Ok, Err}
use Rattle.refusals.specs.declared.Fault.{Fault}
use Rattle.refusals.specs.declared.Refusal.TheVariants.{NotTheKey}

-- refusal 11, at a place
abbrev pub not_the_key : ℕ → Fault
not_the_key place = record { refusal = NotTheKey; place = place }

-- compares bytes from `at` on: finds the place behind them, or the first place, counted from 1, at which the plan differs or has ended
unfoldable pub match_from : List ℕ → List ℕ → ℕ → Result ℕ Fault
match_from [] plan at = Ok at
match_from (b ∷ bytes) plan at =
    elim (ltb at (length plan)) [
      | true ↦ elim (eqb (get_or plan at 0) b) [ true ↦ match_from bytes plan (at + 1) | false ↦ Err (not_the_key (at + 1)) ]
      | false ↦ Err (not_the_key (at + 1))
    ]
