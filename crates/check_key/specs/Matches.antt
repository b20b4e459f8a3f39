-- Defines what comparing a key with a plan finds.
-- Assumes nothing.
use Rattle.std.specs.Prelude.{ℕ, zero, suc, List, length, Result, Ok, Err}
use Rattle.papers.specs.Lists.{least}
use Rattle.papers.specs.Numbers.{differs_at}
use Rattle.refusals.specs.declared.Fault.{Fault}
use Rattle.check_numbers.specs.Matches.{not_the_key}

-- compares the key with the plan: finds its length, or the place that refusal 11 names
unfoldable pub key_match : List ℕ → List ℕ → Result ℕ Fault
key_match key plan = elim (least (differs_at key plan) (length key)) [ zero ↦ Ok (length key) | suc p ↦ Err (not_the_key (suc p)) ]
