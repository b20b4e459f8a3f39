-- Proves that R(j) comes from the pattern and the children of j alone. An earlier column that has j as a row is in the subtree of j, and
-- its rows above j climb from parent to parent, so a child of j has them too.
-- Assumes nothing.
use Prim.Native.Nat.{ℕ, ◌<◌, ◌≤◌}
use mathlib.Core.Path.{◌≡◌}
use mathlib.Core.Logic.{◌⊎◌, inl, inr, ◌↔◌}
use mathlib.Core.List.Memᴰ
use mathlib.Core.List.{List, ◌∷◌}
use native.Mathlib.Omega.{arith}
use native.Mathlib.Nat.{eq-or-lt_of_le}
use lib.ListN.{drop}
use Rattle.papers.specs.Lists.{◌∈◌, Asc}
use Rattle.papers.specs.Job.{Pattern, Below}
use Rattle.papers.specs.Fill.{R}
use Rattle.papers.specs.Tree.{parent, Under, top, up}
use Rattle.fill_laws.specs.Rows.{FromChild}
use Rattle.list_laws.proofs.Ascending.{asc-above, asc-ext, drop_head}
use Rattle.fill_laws.proofs.Fill.{Earlier, R-asc, R-pattern, R-cases}
use Rattle.fill_laws.proofs.Parents.{child-cons, parent_above, parent-least, hands_on}
use Rattle.fill_laws.proofs.Subtrees.{under-le, row_under}
use Rattle.fill_laws.proofs.Joins.{join_all, join-asc, join-acc, join-into, join-from}

module _ {n : ℕ} {A : Pattern} (good : Below n A) where
  climbs : (j k i : ℕ) → Under (parent A) j k → k < j → i ∈ R A k → j < i → FromChild A j i
  climbs j k i top b m l = absurd (omega arith)
  climbs j k i (up h u) b m l = go (eq-or-lt_of_le low) (λ q. climbs j (parent A k) i u q (hands_on good k i h m (omega arith)) l)
    where
      low : parent A k ≤ j
      low = under-le (parent A) (parent_above good) j (parent A k) u

      go : (parent A k ≡ j) ⊎ (parent A k < j) → (parent A k < j → FromChild A j i) → FromChild A j i
      go (inl e) ih = record { child = k; child-of = e; row = m; above = l }
      go (inr q) ih = ih q

  -- the rows of R(j) are its pattern rows and the rows above j of its children, and no others
  pub R-children : (j i : ℕ) → (i ∈ R A j) ↔ ((i ∈ A j) ⊎ FromChild A j i)
  R-children j i = (λ m. into (R-cases A j i m), back)
    where
      into : (i ∈ A j) ⊎ Earlier A j i → (i ∈ A j) ⊎ FromChild A j i
      into (inl m) = inl m
      into (inr e) = inr (climbs j e.column i (row_under good e.column j e.holds) e.before e.row e.above)

      back : (i ∈ A j) ⊎ FromChild A j i → i ∈ R A j
      back (inl m) = R-pattern good j i m
      back (inr c) =
          let e = c.child-of in
          rw e at (hands_on good c.child i (parent-least good c.child i c.row).0 c.row (rw e c.above))

  -- R(j) is its pattern rows joined with the lists of its children without j
  pub R-joined : (j : ℕ) → 1 ≤ j → (cs : List ℕ) → ((c : ℕ) → (c ∈ cs) ↔ (parent A c ≡ j)) → join_all (λ c. drop 1 (R A c)) cs (A j) ≡ R A j
  R-joined j h cs exact = asc-ext j _ _
      (join-asc rest j cs (A j) (good.ascending j) (λ c m. rest-asc c ((exact c).0 m)))
      (R-asc good j)
      (join-from rest (λ i. i ∈ R A j) cs (A j) (λ i m. R-pattern good j i m) (λ c i m t. into c i ((exact c).0 m) t))
      (λ i m. back i ((R-children j i).0 m))
    where
      rest : ℕ → List ℕ
      rest c = drop 1 (R A c)

      rest-asc : (c : ℕ) → parent A c ≡ j → Asc j (rest c)
      rest-asc c e = let s : Asc c (j ∷ rest c) = rw (child-cons A j c h e) at (R-asc good c) in s.1

      into : (c i : ℕ) → parent A c ≡ j → i ∈ rest c → i ∈ R A j
      into c i e t =
          let row : i ∈ R A c = rw (child-cons A j c h e) (Memᴰ.tail t) in
          (R-children j i).1 (inr (record { child = c; child-of = e; row = row; above = asc-above j (rest c) (rest-asc c e) t }))

      back : (i : ℕ) → (i ∈ A j) ⊎ FromChild A j i → i ∈ join_all rest cs (A j)
      back i (inl m) = join-acc rest cs (A j) m
      back i (inr c) =
          let t = drop_head j (λ e. omega (arith, c.above)) (rw (child-cons A j c.child h c.child-of) at c.row) in
          join-into rest cs (A j) c.child ((exact c.child).1 c.child-of) t
