-- Proves that a subtree takes consecutive steps that end at its top's exactly if all its columns are within as many steps as it has columns, since
-- that many different steps fill the window.
-- Assumes nothing.
use Prim.Native.Nat.{ℕ, suc, ◌+◌, ◌-◌, ◌≤◌}
use mathlib.Core.Path.{◌≡◌, refl, ap, ◌∙◌, sym}
use mathlib.Core.Logic.{◌↔◌}
use mathlib.Core.List.{List}
use native.Mathlib.Omega.{arith}
use lib.ListN.{length}
use lib.Seq.{slice, length-slice}
use Rattle.papers.specs.Lists.{◌∈◌, Distinct}
use Rattle.papers.specs.Tree.{Under, subtree_of}
use Rattle.papers.specs.Order.{column_at_step, Together}
use Rattle.list_laws.proofs.Counts.{same_length, all_there}
use Rattle.order_laws.specs.Parents.{Tree}
use Rattle.order_laws.proofs.Trees.{under-range}
use Rattle.order_laws.proofs.Subtrees.{subtree-is, subtree-distinct}
use Rattle.order_laws.proofs.Steps.{slice-steps, step_of, slice-distinct}
use Rattle.order_laws.proofs.Pieces.{Piece, together-piece, piece-together}

-- an order of the columns 1 to n, the step of each, and the number of its descendants
pub record Listing (par : ℕ → ℕ) (n : ℕ) (order : List ℕ) (step below : ℕ → ℕ) : Type 0 where
  pub tree : Tree par n
  pub long : length order ≡ n
  pub each : (j : ℕ) → (j ∈ order) ↔ ((1 ≤ j) × (j ≤ n))
  pub once : Distinct order
  pub stepped : (s : ℕ) → 1 ≤ s → s ≤ n → step (column_at_step order s) ≡ s
  pub counted : (j : ℕ) → 1 ≤ j → j ≤ n → length (subtree_of par n j) ≡ below j + 1

-- each column of j's subtree is within the steps that the subtree should take
abbrev pub Inside : (ℕ → ℕ) → (ℕ → ℕ) → (ℕ → ℕ) → ℕ → Type 0
Inside par step below j = (y : ℕ) → Under par j y → (step y ≤ step j) × (step j ≤ step y + below j)

-- finds a column of j's subtree that is done at the first of those steps
pub record Begins (par step below : ℕ → ℕ) (j : ℕ) : Type 0 where
  pub column : ℕ
  pub under : Under par j column
  pub first : step column + below j ≡ step j

module _ {par : ℕ → ℕ} {n : ℕ} {order : List ℕ} {step below : ℕ → ℕ} (given : Listing par n order step below) where
  -- a column's step, and back
  pub step_range : (j : ℕ) → 1 ≤ j → j ≤ n → (1 ≤ step j) × (step j ≤ n) × (column_at_step order (step j) ≡ j)
  step_range j l u =
      let p = step_of order j ((given.each j).1 (l, u)) in
      let e : step j ≡ p.step = ap step (sym p.is) ∙ given.stepped p.step p.behind (omega (arith, p.within, given.long)) in
      rw e (p.behind, omega (arith, p.within, given.long), p.is)

  module _ (j : ℕ) (l : 1 ≤ j) (u : j ≤ n) where
    low : 1 ≤ step j
    low = (step_range j l u).0

    high : step j ≤ length order
    high = omega (arith, (step_range j l u).1, given.long)

    here : column_at_step order (step j) ≡ j
    here = (step_range j l u).2

    under-is : (x : ℕ) → (x ∈ subtree_of par n j) ↔ Under par j x
    under-is x = subtree-is given.tree j x l u

    known : (x : ℕ) → Under par j x → (1 ≤ x) × (x ≤ n)
    known x v = under-range given.tree j x l u v

    -- ---- from the rule

    module _ (t : Together par order (step j)) where
      piece : Piece par order (step j)
      piece = together-piece par order (step j) low high (λ x v. (given.each x).1 (known x (rw here at v))) t

      all : (x : ℕ) → (x ∈ slice piece.from (step j) order) ↔ Under par j x
      all x = rw here at (piece.all x)

      -- the subtree takes as many steps as it has columns
      room : step j ≡ piece.from + below j + 1
      room =
          omega (
            arith,
            piece.earlier,
            given.counted j l u,
            length-slice piece.from (step j) order high,
            same_length (slice piece.from (step j) order) (subtree_of par n j) (slice-distinct order piece.from (step j) given.once)
                (subtree-distinct par n j)
                (λ x m. (under-is x).1 ((all x).0 m)) (λ x m. (all x).1 ((under-is x).0 m)),
          )

      pub together-inside : Inside par step below j
      together-inside y v =
          let p = (slice-steps order y piece.from (step j) high).0 ((all y).1 v) in
          let e : step y ≡ p.step = ap step (sym p.is) ∙ given.stepped p.step (omega (arith, p.behind))
          (omega (arith, p.within, high, given.long)) in
          (omega (arith, e, p.within), omega (arith, e, p.behind, room))

      pub together-begins : Begins par step below j
      together-begins =
          let k = suc piece.from in
          let a = piece.earlier in
          record {
            column = column_at_step order k;
            under = (all (column_at_step order k)).0 ((slice-steps order (column_at_step order k) piece.from (step j) high).1
                (record { step = k; behind = omega arith; within = omega arith; is = refl }));
            first = omega (arith, given.stepped k (omega arith) (omega (arith, high, given.long)), room);
          }

    -- ---- to the rule

    pub inside-together : Inside par step below j → Together par order (step j)
    inside-together inside =
        piece-together par order (step j) low high given.once (record {
          from = from;
          earlier = omega (arith, low, count);
          all = λ x. rw here (outward x, inward x);
        })
      where
        w : ℕ
        w = length (subtree_of par n j)

        from : ℕ
        from = step j - w

        count : w ≡ below j + 1
        count = given.counted j l u

        inward : (x : ℕ) → Under par j x → x ∈ slice from (step j) order
        inward x v =
            let (a, b) = known x v in
            let r = step_range x a b in
            let i = inside x v in
            (slice-steps order x from (step j) high).1 (record { step = step x; behind = omega (arith, r.0, i.1, count); within = i.0; is = r.2 })

        outward : (x : ℕ) → x ∈ slice from (step j) order → Under par j x
        outward x m =
            (under-is x).0 (all_there (subtree_of par n j) (slice from (step j) order) (subtree-distinct par n j) (λ i k. inward i ((under-is i).0 k))
            (omega (arith, length-slice from (step j) order high)) x m)
