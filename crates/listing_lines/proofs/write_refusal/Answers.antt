-- Proves that `write_refusal` writes the line of a refusal: the word `refused` and its three numbers.
-- Assumes nothing.
use Prim.Native.Nat.{ℕ, ◌≤◌}
use mathlib.Core.List.{List, [], ◌∷◌}
use lib.ListN.{length}
use Rattle.papers.specs.declared.Answer.{Answer}
use Rattle.papers.specs.Text.{printed, word_refused, refusal_line}
use Rattle.list_laws.specs.Wrote.{Wrote}
use Rattle.listing_lines.proofs.write_refusal.Goals as goal

module _ (a : Answer) where
  line-fits : {n : ℕ} → length (refusal_line a) ≤ n → length (printed word_refused (a.number ∷ a.place ∷ a.count ∷ [])) ≤ n
  unfolding refusal_line
  line-fits h = h

  line-written : {d₀ d : List ℕ} {k : ℕ} → Wrote (printed word_refused (a.number ∷ a.place ∷ a.count ∷ [])) d₀ d 0 k
      → Wrote (refusal_line a) d₀ d 0 k
  unfolding refusal_line
  line-written p = p

pub write_line-requires : goal.write_line-requires
write_line-requires c = line-fits c.args.answer c.requires

pub returns : goal.returns
returns c = line-written c.args.answer c.write_line.ensures
