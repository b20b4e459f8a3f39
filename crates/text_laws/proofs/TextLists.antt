-- The lists of a text's columns: one line more gives one list more.
-- Assumes nothing.
use Prim.Native.Nat.{ℕ, suc}
use mathlib.Core.Path.{◌≡◌, refl}
use mathlib.Core.List.{List, [], ◌∷◌, ◌++◌}
use lib.ListN.{length}
use Rattle.papers.specs.Lists.{up_to}
use Rattle.papers.specs.Text.{numbers_at, rows_of_line, text_lists}
use Rattle.list_laws.proofs.UpTo.{map-up_to, length-family}

module _ (text : List ℕ) where
  pub lists-none : text_lists text 0 ≡ []
  unfolding text_lists up_to
  lists-none = refl

  -- one line more gives one column more
  pub lists-more : (j : ℕ) → text_lists text (suc j) ≡ text_lists text j ++ (rows_of_line (numbers_at text (suc (suc j))) ∷ [])
  unfolding text_lists
  lists-more j = map-up_to (λ i. rows_of_line (numbers_at text (suc i))) j

  pub length-lists : (j : ℕ) → length (text_lists text j) ≡ j
  unfolding text_lists
  length-lists j = length-family (λ i. rows_of_line (numbers_at text (suc i))) j
