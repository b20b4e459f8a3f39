-- Proves what is held as an order is done: after every step the columns that are done and whose parent is not. So each step pops exactly
-- its column's children, and at the end nothing is held.
-- Assumes nothing.
use Prim.Native.Nat.{ℕ, zero, suc, ◌<◌, ◌≤◌}
use mathlib.Core.Path.{◌≡◌, refl, sym, ap, ◌∙◌}
use mathlib.Core.Logic.{◌↔◌}
use mathlib.Core.List.Memᴰ
use mathlib.Core.List.{List, [], ◌∷◌, reverse, reverse-append}
use native.Mathlib.Omega.{arith}
use lib.ListN.{length, take, drop, take-append-drop}
use lib.Seq.{take-suc, take-length}
use Rattle.papers.specs.Lists.{◌∈◌, Distinct}
use Rattle.papers.specs.Tree.{children, Under, top, up}
use Rattle.papers.specs.Order.{column_at_step, Ordered}
use Rattle.list_laws.proofs.Counts.{distinct_append}
use Rattle.order_laws.specs.Parents.{Tree}
use Rattle.order_laws.specs.Stack.{waiting, held_columns}
use Rattle.order_laws.proofs.Reversed.{reversed-mem, reverse-distinct}
use Rattle.order_laws.proofs.Steps.{column-at, column-in, slice-steps}
use Rattle.order_laws.proofs.Ordering.{ordered-ready}
use Rattle.order_laws.proofs.Waiting.{waiting_none, waiting-are, waiting-next, waiting-taken, waiting-enough}

no-elements : (l : List ℕ) → ((x : ℕ) → ¬ (x ∈ l)) → l ≡ []
no-elements [] h = refl
no-elements (x ∷ l) h = absurd (h x (Memᴰ.head refl))

-- one more step puts its column at the head of those done
done_next : (order : List ℕ) (s : ℕ) → s < length order → reverse (take (suc s) order) ≡ column_at_step order (suc s) ∷ reverse (take s order)
done_next order s h = rw (column-at order s) (ap reverse (take-suc order s 0 h) ∙ reverse-append (take s order) _)

module _ {par : ℕ → ℕ} {n : ℕ} (tree : Tree par n) (order : List ℕ) (o : Ordered par n order) where
  abbrev pops : ℕ → ℕ
  pops j = length (children par n j)

  abbrev held : ℕ → List ℕ
  held s = held_columns par pops order s

  range : (s : ℕ) → s < length order → (1 ≤ column_at_step order (suc s)) × (column_at_step order (suc s) ≤ n)
  range s h = (o.each (column_at_step order (suc s))).0 (column-in order (suc s) (omega arith) (omega arith))

  distinct-so-far : (s : ℕ) → Distinct (reverse (take s order))
  distinct-so-far s = reverse-distinct (take s order) (distinct_append (take s order) (drop s order) (rw (take-append-drop s order) o.once)).0

  -- a parent is done after its column
  parent-later : (s : ℕ) → s < length order → ¬ (par (column_at_step order (suc s)) ∈ reverse (take s order))
  parent-later s h m =
      let j = column_at_step order (suc s) in
      let p = (slice-steps order (par j) 0 s (omega arith)).0 ((reversed-mem (take s order)).0 m) in
      let here : 1 ≤ par j = ((o.each (par j)).0 (rw p.is at (column-in order p.step (omega arith) (omega arith)))).0 in
      let under : Under par (column_at_step order p.step) j = rw p.is (up {k = j} here top) in
      let (a, b) = ((o.together p.step (omega arith) (omega arith)).steps (suc s) (omega arith) (omega arith)).0 under in
      omega arith

  held-waiting : (s : ℕ) → s ≤ length order → held s ≡ waiting par (reverse (take s order))
  unfolding held_columns
  held-waiting zero h = sym (waiting_none par)
  held-waiting (suc s) h =
      let j = column_at_step order (suc s) in
      let l : s < length order = omega arith in
      rw (done_next order s l, held-waiting s (omega arith))
      (sym (waiting-next tree (reverse (take s order)) j (range s l).0 (ordered-ready tree order o s l) (distinct-so-far s) (parent-later s l)))

  -- the updates held are those of the columns that are done and whose parent is not
  pub held-are : (s x : ℕ) → s ≤ length order → (x ∈ held_columns par pops order s) ↔ ((x ∈ take s order) × (0 < par x) × (¬ (par x ∈ take s order)))
  held-are s x h = rw (held-waiting s h) (
    λ m. let (a, b, c) = (waiting-are par (reverse (take s order)) x).0 m in
        ((reversed-mem (take s order)).0 a, b, λ k. c ((reversed-mem (take s order)).1 k)),
    λ (a, b, c). (waiting-are par (reverse (take s order)) x).1 ((reversed-mem (take s order)).1 a, b, λ k. c ((reversed-mem (take s order)).0 k)),
  )

  module _ (s : ℕ) (h : s < length order) where
    -- a step's pops are no more than the updates held
    pub step-enough : pops (column_at_step order (suc s)) ≤ length (held_columns par pops order s)
    step-enough =
        rw (held-waiting s (omega arith))
        (waiting-enough tree (reverse (take s order)) (column_at_step order (suc s)) (range s h).0 (ordered-ready tree order o s h) (distinct-so-far s)
        (parent-later s h))

    -- the updates on top are those of its column's children
    pub step-takes : (x : ℕ) → (x ∈ take (pops (column_at_step order (suc s))) (held_columns par pops order s)) ↔ (par x ≡ column_at_step order (suc s))
    step-takes x =
        rw (held-waiting s (omega arith))
        (waiting-taken tree (reverse (take s order)) (column_at_step order (suc s)) (range s h).0 (ordered-ready tree order o s h) (distinct-so-far s)
        (parent-later s h) x)

  -- at the end nothing is held
  pub held_none : held_columns par pops order (length order) ≡ []
  held_none = no-elements (held (length order)) (λ x m. none x ((held-are (length order) x (omega arith)).0 m))
    where
      none : (x : ℕ) → (x ∈ take (length order) order) × (0 < par x) × (¬ (par x ∈ take (length order) order)) → ⊥
      none x (a, b, c) = c (rw (take-length order) ((o.each (par x)).1 (b, tree.within x)))
