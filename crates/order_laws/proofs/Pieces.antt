-- Proves that a subtree's steps are consecutive with its top last exactly when they are a slice of the order that ends at the top.
-- Assumes nothing.
use Prim.Native.Nat.{ℕ, suc, ◌-◌, ◌<◌, ◌≤◌}
use mathlib.Core.Path.{refl}
use mathlib.Core.Logic.{◌↔◌}
use mathlib.Core.List.{List}
use native.Mathlib.Omega.{arith}
use lib.ListN.{length}
use lib.Seq.{slice}
use Rattle.papers.specs.Lists.{◌∈◌, Distinct}
use Rattle.papers.specs.Tree.{Under, top}
use Rattle.papers.specs.Order.{column_at_step, Together}
use Rattle.order_laws.proofs.Steps.{slice-steps, step_of, one-step}

-- the subtree of the column of step s takes the steps after `from` up to s
pub record Piece (par : ℕ → ℕ) (order : List ℕ) (s : ℕ) : Type 0 where
  pub from : ℕ
  pub earlier : from < s
  pub all : (x : ℕ) → (x ∈ slice from s order) ↔ Under par (column_at_step order s) x

module _ (par : ℕ → ℕ) (order : List ℕ) (s : ℕ) (l : 1 ≤ s) (u : s ≤ length order) where
  pub together-piece : ((x : ℕ) → Under par (column_at_step order s) x → x ∈ order) → Together par order s → Piece par order s
  together-piece whole t = record { from = t.from - 1; earlier = omega (arith, ((t.steps s l u).0 top).0); all = λ x. (from x, into x) }
    where
      from : (x : ℕ) → x ∈ slice (t.from - 1) s order → Under par (column_at_step order s) x
      from x m =
          let p = (slice-steps order x (t.from - 1) s u).0 m in
          rw p.is at ((t.steps p.step (omega arith) (omega arith)).1 (omega arith, p.within))

      into : (x : ℕ) → Under par (column_at_step order s) x → x ∈ slice (t.from - 1) s order
      into x v =
          let p = step_of order x (whole x v) in
          let (a, b) = (t.steps p.step p.behind p.within).0 (rw p.is v) in
          (slice-steps order x (t.from - 1) s u).1 (record { step = p.step; behind = omega arith; within = b; is = p.is })

  pub piece-together : Distinct order → Piece par order s → Together par order s
  piece-together d p =
      record {
        from = suc p.from;
        steps = λ k a b. (
          into k a b,
          λ (f, g). (p.all (column_at_step order k)).0 ((slice-steps order (column_at_step order k) p.from s u).1 (record {
            step = k;
            behind = omega arith;
            within = g;
            is = refl;
          })),
        );
      }
    where
      into : (k : ℕ) → 1 ≤ k → k ≤ length order → Under par (column_at_step order s) (column_at_step order k) → (suc p.from ≤ k) × (k ≤ s)
      into k a b v =
          let q = (slice-steps order (column_at_step order k) p.from s u).0 ((p.all (column_at_step order k)).1 v) in
          let e = one-step order d q.step k (omega arith) (omega arith) a b q.is in
          (omega arith, omega arith)
