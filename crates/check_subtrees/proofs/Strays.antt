-- Proves that the least step that a child strays from is the least step of a scattered subtree: if no child strays, every subtree keeps within its
-- steps, from the lowest column up; if one strays and its own subtree is whole, its parent's is not.
-- Assumes nothing.
use Prim.Native.Nat.{ℕ, zero, suc, ◌+◌, ◌<◌, ◌≤◌}
use mathlib.Core.Path.{◌≡◌, refl, sym, ap, ◌∙◌}
use mathlib.Core.Logic.{◌⊎◌, inl, inr, ◌↔◌, ◌≢◌}
use mathlib.Core.Bool.{true, false}
use mathlib.Core.List.{List}
use native.Mathlib.Omega.{arith}
use lib.Dec.{eqb}
use borrow.Author.Tests.{eqb-true, eqb-false}
use Rattle.papers.specs.Lists.{least}
use Rattle.papers.specs.Order.{column_at_step, Together, scattered}
use Rattle.fill_laws.proofs.Subtrees.{under-trans}
use Rattle.list_laws.proofs.Tests.{Test, passes, fails, test, strong}
use Rattle.list_laws.proofs.Leasts.{least-zero-iff, least-found-iff}
use Rattle.order_laws.proofs.Trees.{under-child, through}
use Rattle.order_laws.proofs.Steps.{column-in}
use Rattle.order_laws.proofs.TogetherTest.{scattered-test}
use Rattle.check_subtrees.specs.Strays.{stray_step_of, earliest}
use Rattle.check_subtrees.proofs.Earliest.{Earliest, none, found, earliest-is}
use Rattle.check_subtrees.proofs.Judged.{Fits, Judged, within, strays, judged}
use Rattle.check_subtrees.proofs.Windows.{Listing, Inside, step_range, together-inside, together-begins, inside-together}

module _ {par : ℕ → ℕ} {n : ℕ} {order : List ℕ} {step below : ℕ → ℕ} (given : Listing par n order step below) where
  -- if the children of a column fit, and their subtrees keep within their own steps, so does the column's subtree
  inside-up : (j : ℕ) → ((c : ℕ) → par c ≡ j → Fits par step below c × Inside par step below c) → Inside par step below j
  inside-up j kids y v = go (test (eqb y j))
    where
      go : Test (eqb y j) → (step y ≤ step j) × (step j ≤ step y + below j)
      go (passes e) = let q = eqb-true y j e in rw q (omega arith, omega arith)
      go (fails e) =
          let w = through par j y v (eqb-false y j e) in
          let (f, i) = kids w.child w.parent in
          let g : (step w.child ≤ step j) × (step j + below w.child ≤ step w.child + below j) = rw w.parent at f in
          let k = i y w.under in
          (omega (arith, g.0, k.0), omega (arith, g.1, k.1))

  -- a column with a parent is one of 1 to n
  child-range : (c : ℕ) → 0 < par c → (1 ≤ c) × (c ≤ n)
  child-range zero z = absurd (omega (arith, given.tree.none))
  child-range (suc c) z = (omega arith, omega (arith, given.tree.above (suc c) z, given.tree.within (suc c)))

  -- if no child strays from a parent before step b, all subtrees before it keep within their steps
  module _ (b : ℕ) (fit : (c : ℕ) → 0 < par c → step (par c) < b → Fits par step below c) where
    child-inside : (j : ℕ) → ((m : ℕ) → m < j → 1 ≤ m → step m < b → Inside par step below m) → 1 ≤ j → step j < b
        → (c : ℕ) → par c ≡ j → Fits par step below c × Inside par step below c
    child-inside j ih l h c e =
        let z : 0 < par c = omega arith in
        let f = fit c z (rw e h) in
        (f, ih c (omega (arith, given.tree.above c z)) (child-range c z).0 (omega (arith, f.0, ap step e)))

    all-inside : (j : ℕ) → 1 ≤ j → step j < b → Inside par step below j
    all-inside = strong (λ j. 1 ≤ j → step j < b → Inside par step below j) (λ j ih l h. inside-up j (child-inside j ih l h))

    all-together : (k : ℕ) → 1 ≤ k → k ≤ n → k < b → Together par order k
    all-together k l u h =
        let j = column_at_step order k in
        let e = given.stepped k l u in
        let (a, c) = (given.each j).0 (column-in order k l (omega (arith, given.long))) in
        rw e at (inside-together given j a c (all-inside j a (rw e h)))

  -- a child whose subtree is whole fits into its parent's subtree if that is whole
  fits_in : (c : ℕ) → 0 < par c → Together par order (step c) → Inside par step below (par c) → Fits par step below c
  fits_in c z t inside =
      let (l, u) = child-range c z in
      let begins = together-begins given c l u t in
      let under = under-child par (par c) c z refl in
      ((inside c under).0, omega (arith, (inside begins.column (under-trans par (par c) c begins.column under begins.under)).1, begins.first))

  scattered-not : (k : ℕ) → 1 ≤ k → k ≤ n → (scattered par n order k ≡ false) ↔ Together par order k
  scattered-not k l u = scattered-test given.tree order given.each given.once k l (omega (arith, given.long))

  -- a column is not done at its parent's step
  apart : (c : ℕ) → 0 < par c → step c ≢ step (par c)
  apart c z e =
      let (l, u) = child-range c z in
      let up = given.tree.above c z in
      let a = (step_range given c l u).2 in
      let b = (step_range given (par c) (omega arith) (given.tree.within c)).2 in
      let same : c ≡ par c = sym a ∙ (ap (column_at_step order) e ∙ b) in
      absurd (omega arith)

  parent-step : (c : ℕ) → 0 < par c → (1 ≤ step (par c)) × (step (par c) ≤ n) × (column_at_step order (step (par c)) ≡ par c)
  parent-step c z = step_range given (par c) (omega arith) (given.tree.within c)

  -- no child strays from a parent before step b
  module _ (b : ℕ) (none_before : (c : ℕ) → 1 ≤ c → c ≤ n → (stray_step_of par step below c ≡ 0) ⊎ (b ≤ stray_step_of par step below c)) where
    fits-before : (c : ℕ) → 0 < par c → step (par c) < b → Fits par step below c
    fits-before c z h = go (judged par step below c) (none_before c (child-range c z).0 (child-range c z).1)
      where
        go : Judged par step below c → (stray_step_of par step below c ≡ 0) ⊎ (b ≤ stray_step_of par step below c) → Fits par step below c
        go (within e f) a = f z
        go (strays e y f) (inl a) = absurd (omega (arith, (parent-step c z).0))
        go (strays e y f) (inr a) = absurd (omega arith)

    none-scattered : (k : ℕ) → 1 ≤ k → k ≤ n → k < b → scattered par n order k ≡ false
    none-scattered k l u h = (scattered-not k l u).1 (all-together b fits-before k l u h)

    -- a child that strays from its parent at step b leaves the parent's subtree scattered
    module _ (c : ℕ) (z : 0 < par c) (here : step (par c) ≡ b) (stray : Fits par step below c → ⊥) where
      not-together : Together par order b → ⊥
      not-together t =
          let (low, high) = child-range c z in
          let inside = together-inside given (par c) (omega arith) (given.tree.within c) (rw here t) in
          let before : step c < b = let d = apart c z in omega (arith, (inside c (under-child par (par c) c z refl)).0) in
          let (x, y, q) = step_range given c low high in
          stray (fits_in c z (all-together b fits-before (step c) x y before) inside)

      stray-scattered : scattered par n order b ≡ true
      stray-scattered = go (test (scattered par n order b))
        where
          go : Test (scattered par n order b) → scattered par n order b ≡ true
          go (passes e) = e
          go (fails e) = absurd (not-together ((scattered-not b (omega (arith, (parent-step c z).0)) (omega (arith, (parent-step c z).1))).0 e))

  pub stray-least : earliest (stray_step_of par step below) n ≡ least (scattered par n order) n
  stray-least = go (earliest (stray_step_of par step below) n) (earliest-is (stray_step_of par step below) n)
    where
      go : (r : ℕ) → Earliest (stray_step_of par step below) n r → r ≡ least (scattered par n order) n
      go r (none z h) =
          rw z (sym ((least-zero-iff (scattered par n order) n).1 (λ k l u. none-scattered (suc n) (λ c a b. inl (h c a b)) k l u (omega arith))))
      go zero (found p c l u e h) = absurd (omega arith)
      go (suc r) (found p c l u e h) = at (judged par step below c)
        where
          at : Judged par step below c → suc r ≡ least (scattered par n order) n
          at (within q f) = absurd (omega arith)
          at (strays q z f) =
              let here : step (par c) ≡ suc r = sym q ∙ e in
              let high : suc r ≤ n = omega (arith, (parent-step c z).1) in
              sym ((least-found-iff (scattered par n order) n r).1
              (high, stray-scattered (suc r) h c z here f, λ k a b. none-scattered (suc r) h k a (omega arith) (omega arith)))
