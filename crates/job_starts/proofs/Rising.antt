-- Proves each way through the loop over the starts: no start of the columns passed falls, so the first that falls is the least, and after the last
-- column none falls.
-- Assumes nothing.
use Prim.Native.Nat.{ℕ, suc, ◌+◌, ◌<◌, ◌≤◌}
use mathlib.Core.Path.{◌≡◌, refl, ◌∙◌}
use mathlib.Core.Logic.{◌≢◌}
use mathlib.Core.Bool.{true}
use mathlib.Core.List.{List}
use native.Mathlib.Omega.{arith}
use native.Mathlib.Numerals.{add-one}
use lib.ListN.{length, get_or}
use borrow.Author.Tests.{lt-ltb, le-ltb}
use Rattle.papers.specs.Lists.{least}
use Rattle.papers.specs.Refusals.{answer, passed, refused}
use Rattle.papers.specs.Job.{start, falls_at_place}
use Rattle.job_laws.specs.Passed.{starts_test}
use Rattle.list_laws.proofs.Leasts.{least-none, least-here}
use Rattle.job_laws.proofs.Starts.{start-at, falls_at, starts-fall, starts-end, starts-pass}

-- no start of the first `done` columns falls
pub record Rising (n : ℕ) (starts : List ℕ) (done : ℕ) : Type 0 where
  pub long : length starts ≡ n + 1
  pub from_zero : start starts 1 ≡ 0
  pub reached : done ≤ n
  pub none : least (falls_at_place starts) done ≡ 0

-- starts has n + 1 numbers, and the first is 0
pub begin : {n : ℕ} (starts : List ℕ) → length starts ≡ n + 1 → get_or starts 0 0 ≡ 0 → Rising n starts 0
unfolding least
begin starts long z = record { long = long; from_zero = start-at starts 0 ∙ z; reached = omega arith; none = refl }

module _ {n : ℕ} {starts : List ℕ} {done : ℕ} (r : Rising n starts done) where
  pub next : done < n → get_or starts done 0 ≤ get_or starts (done + 1) 0 → Rising n starts (done + 1)
  next l h =
      record {
        long = r.long;
        from_zero = r.from_zero;
        reached = omega arith;
        none = rw add-one (least-none (falls_at_place starts) done r.none (rw (falls_at starts done, ← add-one done)
            (le-ltb (get_or starts (done + 1) 0) (get_or starts done 0) h)));
      }

  pub fall : (rows : List ℕ) → done < n → get_or starts (done + 1) 0 < get_or starts done 0
      → starts_test n starts rows ≡ refused (answer 4 (done + 1) 0)
  fall rows l h =
      let f : falls_at_place starts (suc done) ≡ true = rw (falls_at starts done, ← add-one done)
      (lt-ltb (get_or starts (done + 1) 0) (get_or starts done 0) h) in
      rw add-one (starts-fall n starts rows r.long r.from_zero done (least-here (falls_at_place starts) done n r.none f (omega arith)))

  module _ (rows : List ℕ) (l : n ≤ done) where
    all : least (falls_at_place starts) n ≡ 0
    all = let e : n ≡ done = let q = r.reached in omega arith in rw e r.none

    pub end : get_or starts n 0 ≢ length rows → starts_test n starts rows ≡ refused (answer 4 n 0)
    end h = starts-end n starts rows r.long r.from_zero all (rw (start-at starts n) h)

    pub pass : get_or starts n 0 ≡ length rows → starts_test n starts rows ≡ passed
    pass h = starts-pass n starts rows r.long r.from_zero all (start-at starts n ∙ h)
