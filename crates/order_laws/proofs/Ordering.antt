-- Proves that the order rule and the rule step by step say the same: at each step, the subtree of its column takes the steps right before
-- it.
-- Assumes nothing.
use Prim.Native.Nat.{ℕ, suc, ◌-◌, ◌<◌, ◌≤◌}
use mathlib.Core.Path.{◌≡◌, refl, sym, ap, ◌∙◌}
use mathlib.Core.Logic.{◌⊎◌, inl, inr, ◌↔◌, ◌≢◌}
use mathlib.Core.List.Memᴰ
use mathlib.Core.List.{List, [], ◌∷◌, ◌++◌, reverse, reverse_aux, reverse-append, reverse-reverse}
use native.Mathlib.Omega.{arith}
use native.Mathlib.Numerals.{add-one}
use lib.Dec.{eqb}
use lib.ListN.{length, take, drop, get_or, length-append, length-reverse, take-append-drop}
use lib.Seq.{slice, take-append-add, drop-append-le, drop_at, get_or-append_seam, split_at, length-take-le}
use borrow.Author.Tests.{eqb-true, eqb-false}
use Rattle.papers.specs.Lists.{◌∈◌, Distinct}
use Rattle.papers.specs.Tree.{Under, top}
use Rattle.papers.specs.Order.{column_at_step, Together, Ordered}
use Rattle.list_laws.proofs.Tests.{Test, passes, fails, test}
use Rattle.list_laws.proofs.Counts.{distinct_append}
use Rattle.order_laws.specs.Parents.{Tree}
use Rattle.order_laws.specs.Done.{SubtreeDone, Valid}
use Rattle.order_laws.proofs.Trees.{under-range}
use Rattle.order_laws.proofs.Reversed.{reversed-mem}
use Rattle.order_laws.proofs.Steps.{column-at}
use Rattle.order_laws.proofs.Pieces.{Piece, together-piece, piece-together}

-- ---- one step: the order is pre, then j, then rest
module _ (par : ℕ → ℕ) (pre : List ℕ) (j : ℕ) (rest : List ℕ) where
  pub column-here : column_at_step (pre ++ (j ∷ rest)) (suc (length pre)) ≡ j
  column-here = column-at (pre ++ (j ∷ rest)) (length pre) ∙ get_or-append_seam pre j rest 0

  -- the steps that end at j
  slice-here : (a : ℕ) → a ≤ length pre → slice a (suc (length pre)) (pre ++ (j ∷ rest)) ≡ drop a pre ++ (j ∷ [])
  slice-here a h =
      let through : take (suc (length pre)) (pre ++ (j ∷ rest)) ≡ pre ++ (j ∷ []) = rw (← (add-one (length pre)))
      (take-append-add pre (j ∷ rest) 1) in
      rw through (drop-append-le a pre (j ∷ []) h)

  ready-piece : SubtreeDone par (reverse pre) j → Piece par (pre ++ (j ∷ rest)) (suc (length pre))
  ready-piece r =
      record {
        from = length r.before;
        earlier = omega (arith, fits);
        all = λ x. rw (slice-here (length r.before) fits, inner, column-here)
            (λ m. from x (Memᴰ.append_cases (reverse r.inside) m), into x);
      }
    where
      pre_is : pre ≡ reverse r.before ++ reverse r.inside
      pre_is = sym (reverse-reverse pre) ∙ (ap reverse r.split ∙ reverse-append r.inside r.before)

      fits : length r.before ≤ length pre
      fits = omega (arith, ap length r.split, length-append r.inside r.before, length-reverse pre)

      inner : drop (length r.before) pre ≡ reverse r.inside
      inner =
          ap (drop (length r.before)) pre_is ∙ drop_at (reverse r.before) (reverse r.inside) (length r.before)
          (length-reverse r.before)

      from : (x : ℕ) → (x ∈ reverse r.inside) ⊎ (x ∈ (j ∷ [])) → Under par j x
      from x (inl m) = ((r.all x).0 ((reversed-mem r.inside).0 m)).0
      from x (inr m) = rw (Memᴰ.eq_of_singleton m) top

      into : (x : ℕ) → Under par j x → x ∈ (reverse r.inside ++ (j ∷ []))
      into x u = go (test (eqb x j))
        where
          go : Test (eqb x j) → x ∈ (reverse r.inside ++ (j ∷ []))
          go (passes e) = Memᴰ.append_right (reverse r.inside) (Memᴰ.head (eqb-true x j e))
          go (fails e) = Memᴰ.append_left (j ∷ []) ((reversed-mem r.inside).1 ((r.all x).1 (u, eqb-false x j e)))

  piece-ready : ¬ (j ∈ pre) → Piece par (pre ++ (j ∷ rest)) (suc (length pre)) → SubtreeDone par (reverse pre) j
  piece-ready new p = record {
    inside = reverse (drop a pre);
    before = reverse (take a pre);
    split = rw (← (reverse-append (take a pre) (drop a pre)), take-append-drop a pre);
    all = λ x. (λ m. from x ((reversed-mem (drop a pre)).0 m), λ s. (reversed-mem (drop a pre)).1 (into x s.0 s.1));
    new = λ m. new ((reversed-mem pre).0 m);
  }
    where
      a : ℕ
      a = p.from

      piece : (x : ℕ) → (x ∈ (drop a pre ++ (j ∷ []))) ↔ Under par j x
      piece x = rw (slice-here a (omega (arith, p.earlier)), column-here) at (p.all x)

      from : (x : ℕ) → x ∈ drop a pre → Under par j x × (x ≢ j)
      from x m =
          ((piece x).0 (Memᴰ.append_left (j ∷ []) m), λ e. new (Memᴰ.cast (sym e) (rw (take-append-drop a pre) at (Memᴰ.append_right (take a pre) m))))

      into : (x : ℕ) → Under par j x → x ≢ j → x ∈ drop a pre
      into x u h = go (Memᴰ.append_cases (drop a pre) ((piece x).1 u))
        where
          go : (x ∈ drop a pre) ⊎ (x ∈ (j ∷ [])) → x ∈ drop a pre
          go (inl m) = m
          go (inr m) = absurd (h (Memᴰ.eq_of_singleton m))

-- ---- all steps
module _ (par : ℕ → ℕ) where
  -- no column is done twice
  pub valid-distinct : (js done : List ℕ) → Valid par done js → Distinct js × ((x : ℕ) → x ∈ js → ¬ (x ∈ done))
  valid-distinct [] done v = (tt, λ x m k. Memᴰ.not-nil m)
  valid-distinct (j ∷ js) done v = go (valid-distinct js (j ∷ done) v.1)
    where
      go : Distinct js × ((x : ℕ) → x ∈ js → ¬ (x ∈ (j ∷ done))) → Distinct (j ∷ js) × ((x : ℕ) → x ∈ (j ∷ js) → ¬ (x ∈ done))
      go (d, off) = ((λ m. off j m (Memᴰ.head refl), d), λ x m k. each x k (Memᴰ.cases_cons m))
        where
          each : (x : ℕ) → x ∈ done → (x ≡ j) ⊎ (x ∈ js) → ⊥
          each x k (inl e) = v.0.new (Memᴰ.cast (sym e) k)
          each x k (inr m) = off x m (Memᴰ.tail k)

  valid-at : (pre : List ℕ) (j : ℕ) (rest done : List ℕ) → Valid par done (pre ++ (j ∷ rest)) → SubtreeDone par (reverse_aux pre done) j
  valid-at [] j rest done v = v.0
  valid-at (x ∷ pre) j rest done v = valid-at pre j rest (x ∷ done) v.1

module _ {par : ℕ → ℕ} {n : ℕ} (tree : Tree par n) (order : List ℕ) where
  -- if each step finds its column's subtree right before it, the steps are an order
  pub valid-ordered : ((j : ℕ) → (j ∈ order) ↔ ((1 ≤ j) × (j ≤ n))) → Valid par [] order → Ordered par n order
  valid-ordered each v = record { each = each; once = once; together = together }
    where
      once : Distinct order
      once = (valid-distinct par order [] v).0

      together : (s : ℕ) → 1 ≤ s → s ≤ length order → Together par order s
      together s l u =
          let k : s - 1 < length order = omega arith in
          let e = split_at order (s - 1) 0 k in
          at (take (s - 1) order) (get_or order (s - 1) 0) (drop (suc (s - 1)) order) (sym e)
          (omega (arith, length-take-le (s - 1) order (omega arith)))
        where
          at : (pre : List ℕ) (j : ℕ) (rest : List ℕ) → pre ++ (j ∷ rest) ≡ order → suc (length pre) ≡ s → Together par order s
          at pre j rest e q =
              piece-together par order s l u once (rw (e, q) at (ready-piece par pre j rest (valid-at par pre j rest [] (rw (← e) at v))))

  -- in an order each step finds its column's subtree right before it
  pub ordered-ready : Ordered par n order → (s : ℕ) → s < length order → SubtreeDone par (reverse (take s order)) (column_at_step order (suc s))
  ordered-ready o s h = rw (column-at order s) (at (take s order) (get_or order s 0) (drop (suc s) order) (sym (split_at order s 0 h)))
    where
      at : (pre : List ℕ) (j : ℕ) (rest : List ℕ) → pre ++ (j ∷ rest) ≡ order → SubtreeDone par (reverse pre) j
      at pre j rest e =
          let v : Ordered par n (pre ++ (j ∷ rest)) = rw (← e) at o in
          let size : suc (length pre) ≤ length (pre ++ (j ∷ rest)) = omega (arith, length-append pre (j ∷ rest)) in
          let (l, u) = (v.each j).0 (Memᴰ.append_right pre (Memᴰ.head refl)) in
          let whole : (x : ℕ) → Under par (column_at_step (pre ++ (j ∷ rest)) (suc (length pre))) x → x ∈ (pre ++ (j ∷ rest)) =
          λ x s. (v.each x).1 (under-range tree j x l u (rw (column-here par pre j rest) at s)) in
          let piece = together-piece par (pre ++ (j ∷ rest)) (suc (length pre)) (omega arith) size whole (v.together (suc (length pre)) (omega arith)
          size) in
          piece-ready par pre j rest (λ m. (distinct_append pre (j ∷ rest) v.once).2 j m (Memᴰ.head refl)) piece
