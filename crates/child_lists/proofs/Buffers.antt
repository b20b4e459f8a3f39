-- Proves that the two buffers take turns: the joined list is in the buffer that is next in turn.
-- Assumes nothing.
use Prim.Native.Nat.{ℕ, zero, suc, ◌-◌, ◌≤◌}
use mathlib.Core.Path.{◌≡◌, refl}
use mathlib.Core.Logic.{◌≢◌}
use mathlib.Core.List.{List}
use native.Mathlib.Omega.{arith}
use lib.ListN.{length, take}
use Rattle.papers.specs.Lists.{merge}
use Rattle.joiner.specs.Join.{United}
use Rattle.list_laws.proofs.Stores.{stored-at-start}
use Rattle.child_lists.specs.Buffers.{buffer, list_in_turn, Holds, Roomy}

pub first-buffer : (t : ℕ) (x y : List ℕ) → t ≡ 0 → buffer t x y ≡ x
unfolding buffer
first-buffer t x y e = rw e

pub second-buffer : (t : ℕ) (x y : List ℕ) → t ≢ 0 → buffer t x y ≡ y
unfolding buffer
second-buffer zero x y e = absurd (e refl)
second-buffer (suc t) x y e = refl

module _ {t len : ℕ} {more x y : List ℕ} (r : Roomy t len more x y) where
  pub fits-y : t ≡ 0 → length (merge (take len x) more) ≤ length y
  fits-y e = rw (first-buffer t x y e) at r.joined-y

  pub fits-x : t ≢ 0 → length (merge (take len y) more) ≤ length x
  fits-x e = rw (second-buffer t x y e) at r.joined-x

  -- joins from x into y
  pub joined-in-y : {k : ℕ} {y' : List ℕ} → t ≡ 0 → United (take len x) more y y' k → Holds (1 - t) k x y' (merge (list_in_turn t len x y) more)
  joined-in-y {k} {y'} e u =
      let z : 1 - t ≢ 0 = λ q. omega arith in
      rw (first-buffer t x y e)
      (record {
        count = u.counts;
        list = rw (second-buffer (1 - t) x y' z, u.joins, u.counts) (stored-at-start y (merge (take len x) more) (fits-y e));
      })

  -- joins from y into x
  pub joined-in-x : {k : ℕ} {x' : List ℕ} → t ≢ 0 → United (take len y) more x x' k → Holds (1 - t) k x' y (merge (list_in_turn t len x y) more)
  joined-in-x {k} {x'} e u =
      let z : 1 - t ≡ 0 = omega arith in
      rw (second-buffer t x y e)
      (record {
        count = u.counts;
        list = rw (first-buffer (1 - t) x' y z, u.joins, u.counts) (stored-at-start x (merge (take len y) more) (fits-x e));
      })
