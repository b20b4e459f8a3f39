-- Proves that `count_pops` writes each step's pops: a list of children is as long as the distance from its start to the next one. The pops of the
-- first k steps are written.
-- Assumes nothing.
use Rattle.std.proofs.Common.{ℕ, ◌+◌, ◌<◌, ◌≤◌, ◌≡◌, refl, ◌∙◌, List, [], ◌∷◌}
use Rattle.std.proofs.Common.{map, arith, add-one, length, get_or, set, take, length-set, take-suc, take_all, take-suc-set}
use mathlib.Core.List.{map-append}
use Rattle.room.specs.Rows.{row_count_at}
use Rattle.room.proofs.count_pops.Invariants.{Writing}
use Rattle.room.proofs.count_pops.Goals as goal

writing_start : (starts order pops : List ℕ) → length pops ≡ length order → Writing starts order pops pops 0
writing_start starts order pops h = record { done = refl; seen = omega arith; same = h; long = refl }

module _ {starts order pops₀ pops : List ℕ} {k : ℕ} (inv : Writing starts order pops₀ pops k) where
  writing-stop : length order ≤ k → pops ≡ map (row_count_at starts) order
  writing-stop h =
      let a : take k pops ≡ pops = take_all k pops (omega (arith, inv.same)) in
      let b : take k order ≡ order = take_all k order h in
      rw (a, b) at inv.done

  writing-turn : k < length order → {v : ℕ} → v ≡ row_count_at starts (get_or order k 0) → Writing starts order pops₀ (set pops k v) (k + 1)
  writing-turn h {v} e = record {
    done = rw (
      add-one,
      take-suc-set pops k v (omega (arith, inv.same)),
      take-suc order k 0 h,
      map-append (row_count_at starts) (take k order) (get_or order k 0 ∷ []),
      inv.done,
      e,
    );
    seen = omega arith;
    same = length-set pops k v ∙ inv.same;
    long = length-set pops k v ∙ inv.long;
  }

pub loop-k-init : goal.loop-k-init
loop-k-init c = writing_start _ _ _ c.requires.room

pub loop-k-preserved : goal.loop-k-preserved
loop-k-preserved c = writing-turn c.loop-k.invariant c.loop-k-test.true c.count_at.ensures

pub returns : goal.returns
returns c = writing-stop c.loop-k.invariant c.loop-k-test.false
