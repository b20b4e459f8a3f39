-- Proves that the tests of the single slices, made one after the other, decide whether any lent slice is too short.
-- Assumes nothing.
use Prim.Native.Nat.{ℕ, ◌+◌, ◌<◌, ◌≤◌}
use mathlib.Core.Path.{◌≡◌, sym, ◌∙◌}
use mathlib.Core.Bool.{true}
use lib.Dec.{ltb}
use Rattle.papers.specs.Bounds.{work_length_for}
use Rattle.papers.specs.Analysis.{fixed_for, some_short}
use Rattle.job_laws.proofs.Lengths.{short-here, short-later, short-last}

module _ (n parents order pops starts work : ℕ) where
  pub short-parents : parents < n → true ≡ some_short (fixed_for n parents order pops starts work)
  short-parents h = sym (short-here _ _ h)

  module _ (p : n ≤ parents) where
    pub short-order : order < n → true ≡ some_short (fixed_for n parents order pops starts work)
    short-order h = sym (short-later _ _ p ∙ short-here _ _ h)

    module _ (o : n ≤ order) where
      pub short-pops : pops < n → true ≡ some_short (fixed_for n parents order pops starts work)
      short-pops h = sym (short-later _ _ p ∙ short-later _ _ o ∙ short-here _ _ h)

      module _ (q : n ≤ pops) where
        pub short-starts : starts < n + 1 → true ≡ some_short (fixed_for n parents order pops starts work)
        short-starts h = sym (short-later _ _ p ∙ short-later _ _ o ∙ short-later _ _ q ∙ short-here _ _ h)

        pub short-work : n + 1 ≤ starts → ltb work (work_length_for n) ≡ some_short (fixed_for n parents order pops starts work)
        short-work h = sym (short-later _ _ p ∙ short-later _ _ o ∙ short-later _ _ q ∙ short-later _ _ h ∙ short-last _)
