-- Proves what a step pushes: nothing if its update has no entries, else its own column.
-- Assumes nothing.
use Prim.Native.Nat.{ℕ}
use mathlib.Core.Path.{◌≡◌, refl, ap, ◌∙◌}
use mathlib.Core.Logic.{◌≢◌}
use mathlib.Core.List.{List, [], ◌∷◌}
use native.Mathlib.Omega.{arith}
use lib.ListN.{length}
use Rattle.papers.specs.Tree.{t}
use Rattle.papers.specs.Run.{RunCall, rows_in_factor, pushed}
use Rattle.order_laws.proofs.Triangles.{t-is, t-suc}

module _ (call : RunCall) (c : ℕ) (held : List ℕ) where
  pub push-root : t (length (rows_in_factor call c)) ≡ 0 → pushed call c held ≡ held
  unfolding pushed
  push-root z = go (rows_in_factor call c) refl
    where
      go : (rs : List ℕ) → rows_in_factor call c ≡ rs → pushed call c held ≡ held
      go [] e = rw (e, pushed)
      go (r ∷ rs) e = absurd (omega (arith, z, t-suc (length rs), ap (λ l. t (length l)) e))

  pub push-update : t (length (rows_in_factor call c)) ≢ 0 → pushed call c held ≡ c ∷ held
  unfolding pushed
  push-update h = go (rows_in_factor call c) refl
    where
      go : (rs : List ℕ) → rows_in_factor call c ≡ rs → pushed call c held ≡ c ∷ held
      go [] e = absurd (h (ap (λ l. t (length l)) e ∙ t-is 0))
      go (r ∷ rs) e = rw (e, pushed)
