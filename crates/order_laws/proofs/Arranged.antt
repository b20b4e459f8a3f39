-- Proves that siblings in the mark's order are the same siblings, and that the steps of a subtree do not depend on the depth allowed, once
-- it is enough.
-- Assumes nothing.
use Prim.Native.Nat.{ℕ, zero, suc, ◌<◌, ◌≤◌}
use mathlib.Core.Path.{◌≡◌, refl, ap, ◌∙◌}
use mathlib.Core.Logic.{◌↔◌}
use mathlib.Core.List.{List, [], ◌∷◌, ◌++◌, flat_map}
use native.Mathlib.Omega.{arith}
use lib.ListN.{length}
use Rattle.papers.specs.Lists.{◌∈◌, Distinct}
use Rattle.papers.specs.Order.{sibling_key_of, alone, arranged, steps_of}
use Rattle.list_laws.proofs.Members.{flat_map-same}
use Rattle.list_laws.proofs.Sorts.{sort-elements, sort-length, sort-distinct}
use Rattle.list_laws.proofs.SortOrder.{sort-same}

module _ (mark : ℕ) (size : ℕ → ℕ) (kids : ℕ → List ℕ) where
  -- ---- the children of j, arranged

  pub arranged-elements : (steps : ℕ → List ℕ) (j c : ℕ) → (c ∈ arranged mark size kids steps j) ↔ (c ∈ kids j)
  unfolding arranged
  arranged-elements steps j c = sort-elements _ c (kids j)

  pub arranged-length : (steps : ℕ → List ℕ) (j : ℕ) → length (arranged mark size kids steps j) ≡ length (kids j)
  unfolding arranged
  arranged-length steps j = sort-length _ (kids j)

  pub arranged-distinct : (steps : ℕ → List ℕ) (j : ℕ) → Distinct (kids j) → Distinct (arranged mark size kids steps j)
  unfolding arranged
  arranged-distinct steps j d = sort-distinct _ (kids j) d

  arranged-same : (u v : ℕ → List ℕ) (j : ℕ) → ((c : ℕ) → c ∈ kids j → u c ≡ v c) → arranged mark size kids u j ≡ arranged mark size kids v j
  unfolding arranged
  arranged-same u v j h = sort-same _ _ (kids j) (λ c m. ap (λ l. sibling_key_of mark (size j) (size c) (alone size kids l)) (h c m))

  -- ---- the steps of a subtree

  pub steps-suc : (f j : ℕ)
      → steps_of mark size kids (suc f) j ≡ flat_map (steps_of mark size kids f) (arranged mark size kids (steps_of mark size kids f) j) ++ (j ∷ [])
  unfolding steps_of
  steps-suc f j = refl

  -- if children are lower columns, depth j is enough for column j
  pub steps-enough : ((j c : ℕ) → 0 < j → c ∈ kids j → (0 < c) × (c < j)) → (f g j : ℕ) → 0 < j → j ≤ f → j ≤ g
      → steps_of mark size kids f j ≡ steps_of mark size kids g j
  steps-enough lower zero zero j l u w = refl
  steps-enough lower zero (suc g) j l u w = absurd (omega arith)
  steps-enough lower (suc f) zero j l u w = absurd (omega arith)
  steps-enough lower (suc f) (suc g) j l u w =
      let a = steps_of mark size kids f in
      let b = steps_of mark size kids g in
      let same : (c : ℕ) → c ∈ kids j → a c ≡ b c = λ c m. let (p, q) = lower j c l m in steps-enough lower f g c p (omega arith) (omega arith) in
      let kin = arranged mark size kids b j in
      let children : flat_map a (arranged mark size kids a j) ≡ flat_map b kin = ap (flat_map a) (arranged-same a b j same) ∙ flat_map-same a b kin
      (λ c m. same c ((arranged-elements b j c).0 m)) in
      rw (steps-suc f j, steps-suc g j, children)
