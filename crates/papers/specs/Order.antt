-- Defines the order of the columns: what any order must be, and the order that a mark gives.
-- Assumes nothing.
use Rattle.std.specs.Prelude.{ℕ, zero, suc, ◌-◌, ◌≤◌, ◌↔◌, Bool, not, ◌&&◌, leb, length}
use mathlib.Core.List.{List, [], ◌∷◌, ◌++◌, flat_map}
use Rattle.std.proofs.Math.Seq.{slice}
use Rattle.papers.specs.Lists.{◌∈◌, Distinct, nth, every, sort}
use Rattle.papers.specs.Job.{Pattern}
use Rattle.papers.specs.Tree.{t, parent, row_count, children, Under, is_under, subtree_of}
use Rattle.papers.specs.Room.{rooms, peak_of}

-- ---- what any order must be

-- the column of step s, where steps count from 1
unfoldable pub column_at_step : List ℕ → ℕ → ℕ
column_at_step order s = nth order s

-- the subtree whose top is done at step s takes consecutive steps, and s is the last of them
pub record Together (par : ℕ → ℕ) (order : List ℕ) (s : ℕ) : Type 0 where
  pub from : ℕ
  pub steps : (k : ℕ) → 1 ≤ k → k ≤ length order → Under par (column_at_step order s) (column_at_step order k) ↔ ((from ≤ k) × (k ≤ s))

-- tests whether the subtree whose top is done at step s does not take the steps that end at s
unfoldable pub scattered : (ℕ → ℕ) → ℕ → List ℕ → ℕ → Bool
scattered par n order s =
    let j = column_at_step order s in
    let w = length (subtree_of par n j) in
    not (leb w s && every (is_under par n j) (slice (s - w) s order))

-- an order of the columns 1 to n: each once, each subtree in consecutive steps, its top last
pub record Ordered (par : ℕ → ℕ) (n : ℕ) (order : List ℕ) : Type 0 where
  pub each : (j : ℕ) → (j ∈ order) ↔ ((1 ≤ j) × (j ≤ n))
  pub once : Distinct order
  pub together : (s : ℕ) → 1 ≤ s → s ≤ length order → Together par order s

-- ---- the order of a mark

-- W of a column whose subtree takes these steps: the peak of the steps, done alone
unfoldable pub alone : (ℕ → ℕ) → (ℕ → List ℕ) → List ℕ → ℕ
alone size kids steps = peak_of size (λ j. length (kids j)) steps

-- The key of a sibling; siblings go by descending key. It is given the child's rows and W, and `above`, the parent's number of rows. Mark
-- 0: every key is 0, so numbers ascend. Mark 1: W less the entries of the update, which are part of W. Mark 2: the entries of the update. A
-- mark over 2 has been refused. No mark uses `above` today.
unfoldable pub sibling_key_of : ℕ → ℕ → ℕ → ℕ → ℕ
sibling_key_of zero above rows W = 0
sibling_key_of (suc zero) above rows W = W - t rows
sibling_key_of (suc (suc m)) above rows W = t rows

module _ (mark : ℕ) (size : ℕ → ℕ) (kids : ℕ → List ℕ) where
  -- the children of j in the mark's order, of equal keys the lower number first; `steps c` are the steps of c's subtree
  unfoldable pub arranged : (ℕ → List ℕ) → ℕ → List ℕ
  arranged steps j = sort (λ c. sibling_key_of mark (size j) (size c) (alone size kids (steps c))) (kids j)

  -- the steps of j's subtree, at most f columns deep: the subtrees of its children, then j
  unfoldable pub steps_of : ℕ → ℕ → List ℕ
  steps_of zero j = []
  steps_of (suc f) j = flat_map (steps_of f) (arranged (steps_of f) j) ++ (j ∷ [])

-- ---- of a pattern of n columns

-- the children of j; the children of 0 are the roots
abbrev pub children_of : ℕ → Pattern → ℕ → List ℕ
children_of n A = children (parent A) n

-- pops of the step of j: its number of children
abbrev pub pops_of : ℕ → Pattern → ℕ → ℕ
pops_of n A j = length (children_of n A j)

-- W(j): the peak of the steps of j's subtree when nothing is held before them
unfoldable pub W : ℕ → ℕ → Pattern → ℕ → ℕ
W mark n A j = alone (row_count A) (children_of n A) (steps_of mark (row_count A) (children_of n A) n j)

-- the order of a mark: the subtrees of the roots, by ascending number. A parent is above its children, so no subtree is more than n columns
-- deep.
unfoldable pub order_of : ℕ → ℕ → Pattern → List ℕ
order_of mark n A = flat_map (steps_of mark (row_count A) (children_of n A) n) (children_of n A 0)

-- the room in use at each step of an order
unfoldable pub rooms_of : ℕ → Pattern → List ℕ → List ℕ
rooms_of n A order = rooms (row_count A) (pops_of n A) [] order

-- the peak of an order
unfoldable pub order_peak : ℕ → Pattern → List ℕ → ℕ
order_peak n A order = peak_of (row_count A) (pops_of n A) order
