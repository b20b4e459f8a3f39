-- Proves that the test of 18 is right about a subtree's steps. It looks at as many steps as the subtree has columns; if they are different
-- columns of the subtree, they are all of it.
-- Assumes nothing.
use Prim.Native.Nat.{ℕ, ◌-◌, ◌<◌, ◌≤◌}
use mathlib.Core.Path.{◌≡◌}
use mathlib.Core.Logic.{◌↔◌}
use mathlib.Core.Bool.{true, false, ◌&&◌}
use mathlib.Core.List.Memᴰ
use mathlib.Core.List.{List, [], ◌∷◌}
use native.Mathlib.Omega.{arith}
use lib.Dec.{leb}
use lib.ListN.{length}
use lib.Seq.{slice, length-slice}
use borrow.Author.Tests.{leb-true, le-leb, not-false}
use Rattle.papers.specs.Lists.{◌∈◌, Distinct, every}
use Rattle.papers.specs.Tree.{Under, top, is_under, subtree_of}
use Rattle.papers.specs.Order.{column_at_step, Together, scattered}
use Rattle.list_laws.proofs.Tests.{and-iff}
use Rattle.list_laws.proofs.Every.{every-all}
use Rattle.list_laws.proofs.Counts.{same_length, all_there}
use Rattle.order_laws.specs.Parents.{Tree}
use Rattle.order_laws.proofs.Trees.{under-range}
use Rattle.order_laws.proofs.Subtrees.{under-test, subtree-is, subtree-distinct}
use Rattle.order_laws.proofs.Steps.{column-in, slice-distinct}
use Rattle.order_laws.proofs.Pieces.{Piece, together-piece, piece-together}

module _ {par : ℕ → ℕ} {n : ℕ} (tree : Tree par n) (order : List ℕ) (each : (j : ℕ) → (j ∈ order) ↔ ((1 ≤ j) × (j ≤ n))) (once : Distinct order)
    (s : ℕ) (l : 1 ≤ s) (u : s ≤ length order) where
  j : ℕ
  j = column_at_step order s

  w : ℕ
  w = length (subtree_of par n j)

  range : (1 ≤ j) × (j ≤ n)
  unfolding j
  range = (each (column_at_step order s)).0 (column-in order s l u)

  in-subtree : (x : ℕ) → (x ∈ subtree_of par n j) ↔ Under par j x
  in-subtree x = subtree-is tree j x range.0 range.1

  test-piece : w ≤ s → every (is_under par n j) (slice (s - w) s order) ≡ true → Piece par order s
  unfolding j w
  test-piece fits e = record { from = s - w; earlier = omega (arith, some); all = λ x. (inside x, λ v. all x ((in-subtree x).1 v)) }
    where
      inside : (x : ℕ) → x ∈ slice (s - w) s order → Under par j x
      inside x m = (under-test tree j x).0 ((every-all (is_under par n j) (slice (s - w) s order)).0 e x m)

      all : (x : ℕ) → x ∈ subtree_of par n j → x ∈ slice (s - w) s order
      all =
          all_there (slice (s - w) s order) (subtree_of par n j) (slice-distinct order (s - w) s once) (λ i m. (in-subtree i).1 (inside i m))
          (omega (arith, fits, length-slice (s - w) s order u))

      some : 0 < w
      some = nonempty (subtree_of par n j) ((in-subtree j).1 top)
        where
          nonempty : (xs : List ℕ) → j ∈ xs → 0 < length xs
          nonempty [] m = absurd (Memᴰ.not-nil m)
          nonempty (x ∷ xs) m = omega arith

  piece-test : Piece par order s → (w ≤ s) × (every (is_under par n j) (slice (s - w) s order) ≡ true)
  unfolding j w
  piece-test p =
      let part = slice p.from s order in
      let count = same_length part (subtree_of par n j) (slice-distinct order p.from s once) (subtree-distinct par n j)
      (λ i m. (in-subtree i).1 ((p.all i).0 m)) (λ i m. (p.all i).1 ((in-subtree i).0 m)) in
      let long = length-slice p.from s order u in
      let here : s - w ≡ p.from = omega (arith, count, long, p.earlier) in
      (omega (arith, count, long), rw here ((every-all (is_under par n j) part).1 (λ x m. (under-test tree j x).1 ((p.all x).0 m))))

  -- for the subtree whose top is done at step s, the test and the rule agree
  pub together-test : ((leb (length (subtree_of par n (column_at_step order s))) s && every (is_under par n (column_at_step order s))
      (slice (s - length (subtree_of par n (column_at_step order s))) s order)) ≡ true) ↔ Together par order s
  unfolding j w
  together-test = (
    λ e. let (a, b) = (and-iff (leb w s) (every (is_under par n j) (slice (s - w) s order))).0 e in
        piece-together par order s l u once (test-piece (leb-true w s a) b),
    λ t. let (a, b) = piece-test (together-piece par order s l u (λ x v. (each x).1 (under-range tree j x range.0 range.1 v)) t) in
        rw (le-leb w s a) b,
  )

  pub scattered-test : (scattered par n order s ≡ false) ↔ Together par order s
  unfolding scattered
  scattered-test = (λ e. together-test.0 (not-false _ e), λ t. rw (together-test.1 t))
