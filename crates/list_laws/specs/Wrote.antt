-- What a writer into a lent slice promises.
-- Assumes nothing.
use Rattle.std.specs.Prelude.{ℕ, ◌+◌, ◌≡◌, List, length}
use Rattle.std.proofs.lemmas.List.Edits.{sets}

-- bytes were written from `at` on over what stood there before, and r is the place behind them
pub record Wrote (bytes before after : List ℕ) (at r : ℕ) : Type 0 where
  pub place : r ≡ at + length bytes
  pub writes : after ≡ sets before at bytes
