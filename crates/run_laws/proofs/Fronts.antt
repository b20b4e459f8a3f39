-- Proves one step of a run over the lists R(j) of a pattern. It pops its column's children; their rows, except the column itself, are rows
-- of the column; and a row of the column is in the pattern or comes from a child.
-- Assumes nothing.
use Prim.Native.Nat.{ℕ, zero, suc, ◌<◌, ◌≤◌}
use mathlib.Core.Path.{◌≡◌, sym, ap, ◌∙◌}
use mathlib.Core.Logic.{◌⊎◌, inl, inr, ◌↔◌, ◌≢◌}
use mathlib.Core.List.Memᴰ
use mathlib.Core.List.{◌∷◌}
use native.Mathlib.Omega.{arith}
use native.Mathlib.Nat.{eq-or-lt_of_le}
use lib.ListN.{length}
use lib.Seq.{length-take-le}
use Rattle.papers.specs.Lists.{◌∈◌, Distinct}
use Rattle.papers.specs.Job.{Pattern}
use Rattle.papers.specs.Fill.{R}
use Rattle.papers.specs.Tree.{parent}
use Rattle.papers.specs.Order.{children_of, pops_of}
use Rattle.papers.specs.Run.{RunCall, rows_in_factor, pops_at, state_after, step_column, held_at, KnownColumn, AllFit}
use Rattle.fill_laws.specs.Rows.{FromChild}
use Rattle.list_laws.proofs.Ascending.{drop_head}
use Rattle.fill_laws.proofs.Fill.{R-pattern}
use Rattle.fill_laws.proofs.Parents.{parent-least, hands_on}
use Rattle.fill_laws.proofs.Children.{R-children}
use Rattle.order_laws.specs.Stack.{held_columns}
use Rattle.order_laws.proofs.Subtrees.{children-of, children-distinct}
use Rattle.order_laws.proofs.Patterns.{tree_of}
use Rattle.order_laws.proofs.Steps.{column-in}
use Rattle.order_laws.proofs.Takes.{step-enough, step-takes}
use Rattle.run_laws.specs.Runs.{IsStep, popped_at, front_at}
use Rattle.run_laws.specs.Follows.{Follows}
use Rattle.run_laws.proofs.Once.{distinct-by-count}
use Rattle.run_laws.proofs.Factor.{rows_in, columns-long}
use Rattle.run_laws.proofs.States.{pops-at, held_in}

module _ {A : Pattern} {call : RunCall} (f : Follows A call) where
  -- what is held before a step, and how many it pops
  held-at : (s : ℕ) → suc s ≤ call.n → held_at call (suc s) ≡ held_columns (parent A) (pops_of call.n A) call.columns s
  held-at s h = ap (λ k. (state_after call k).held) (omega arith) ∙ held_in f s (omega arith)

  pub step-known : (s : ℕ) → IsStep call s → KnownColumn call s
  step-known s i = (f.ordered.each (step_column call s)).0 (column-in call.columns s i.0 (omega (arith, columns-long f)))

  step-pops : (s : ℕ) → IsStep call s → pops_at call s ≡ pops_of call.n A (step_column call s)
  step-pops zero i = absurd (omega arith)
  step-pops (suc s) i = pops-at f s i.1

  pub step-held : (s : ℕ) → IsStep call s → pops_at call s ≤ length (held_at call s)
  step-held zero i = absurd (omega arith)
  step-held (suc s) i =
      rw (pops-at f s i.1, held-at s i.1) (step-enough (tree_of f.below) call.columns f.ordered s (omega (arith, columns-long f)))

  -- a step pops the updates of its column's children only
  pub step-popped : (s : ℕ) → IsStep call s → (x : ℕ) → (x ∈ popped_at call s) ↔ (parent A x ≡ step_column call s)
  step-popped zero i x = absurd (omega arith)
  step-popped (suc s) i x =
      rw (pops-at f s i.1, held-at s i.1) (step-takes (tree_of f.below) call.columns f.ordered s (omega (arith, columns-long f)) x)

  -- a step pops each child once, since it pops no more than there are children
  pub step-once : (s : ℕ) → IsStep call s → Distinct (popped_at call s)
  step-once s i =
      let j = step_column call s in
      distinct-by-count (popped_at call s) (children_of call.n A j) (children-distinct (parent A) call.n j)
      (λ x m. (step-popped s i x).1 ((children-of (tree_of f.below) j x (step-known s i).0).0 m))
      (omega (arith, length-take-le (pops_at call s) (held_at call s) (step-held s i), step-pops s i))

  -- each row of a popped update is in the front
  pub popped-fit : (s : ℕ) → IsStep call s → AllFit call s
  popped-fit s i u r m k =
      let child = (step-popped s i u).0 m in
      let row = rw (rows_in f u) at k in
      let (up, least) = parent-least f.below u r row in
      rw (rows_in f (step_column call s)) (go child up row (eq-or-lt_of_le least))
    where
      go : parent A u ≡ step_column call s → 0 < parent A u → r ∈ R A u → (parent A u ≡ r) ⊎ (parent A u < r)
          → r ∈ (step_column call s ∷ R A (step_column call s))
      go child up row (inl e) = Memᴰ.head (sym e ∙ child)
      go child up row (inr l) = Memᴰ.tail (rw child at (hands_on f.below u r up row l))

  -- each pattern row is in the front
  pub pattern-fit : (s i : ℕ) → i ∈ A (step_column call s) → i ∈ front_at call s
  pattern-fit s i m = rw (rows_in f (step_column call s)) (Memᴰ.tail (R-pattern f.below (step_column call s) i m))

  -- a row of the front is the column itself, a pattern row, or a row of a popped update
  pub front-only : (s : ℕ) → IsStep call s → (i : ℕ) → i ∈ front_at call s → i ≢ step_column call s
      → (i ∈ A (step_column call s)) ⊎ ((x : ℕ) × (x ∈ popped_at call s) × (i ∈ rows_in_factor call x))
  front-only s is i m other =
      go ((R-children f.below (step_column call s) i).0 (rw (rows_in f (step_column call s)) at (drop_head (step_column call s) other m)))
    where
      go : (i ∈ A (step_column call s)) ⊎ FromChild A (step_column call s) i
          → (i ∈ A (step_column call s)) ⊎ ((x : ℕ) × (x ∈ popped_at call s) × (i ∈ rows_in_factor call x))
      go (inl k) = inl k
      go (inr c) = inr (c.child, (step-popped s is c.child).1 c.child-of, rw (rows_in f c.child) c.row)
