-- Proves that the chain of a column's children among the columns 1 to m, the last first, lists exactly the columns up to m that have it as their
-- parent.
-- Assumes nothing.
use Prim.Native.Nat.{ℕ, zero, suc, ◌≤◌}
use mathlib.Core.Path.{◌≡◌, refl}
use mathlib.Core.Logic.{◌⊎◌, inl, inr, ◌≢◌}
use mathlib.Core.List.Memᴰ
use mathlib.Core.List.{[], ◌∷◌}
use native.Mathlib.Omega.{arith}
use native.Mathlib.Nat.{le-suc_iff}
use lib.Dec.{eqb}
use borrow.Author.Tests.{eqb-true, eqb-false, eq-eqb, ne_eqb}
use Rattle.papers.specs.Lists.{◌∈◌}
use Rattle.papers.specs.Job.{Pattern}
use Rattle.papers.specs.Tree.{parent}
use Rattle.list_laws.proofs.Tests.{Test, passes, fails, test}
use Rattle.column_laws.specs.Chains.{Desc}
use Rattle.column_laws.proofs.Chains.{desc-weaken}
use Rattle.column_list.specs.Hung.{hung}

module _ (A : Pattern) where
  pub hung-yes : (m j : ℕ) → parent A (suc m) ≡ j → hung A (suc m) j ≡ suc m ∷ hung A m j
  unfolding hung
  hung-yes m j e = rw (eq-eqb (parent A (suc m)) j e, hung)

  pub hung-no : (m j : ℕ) → parent A (suc m) ≢ j → hung A (suc m) j ≡ hung A m j
  unfolding hung
  hung-no m j e = rw (ne_eqb (parent A (suc m)) j e, hung)

  pub hung-none : (j : ℕ) → hung A 0 j ≡ []
  unfolding hung
  hung-none j = refl

  -- a column up to m whose parent is j
  pub record HungUnder (m j c : ℕ) : Type 0 where
    pub first : 1 ≤ c
    pub most : c ≤ m
    pub parent_is : parent A c ≡ j

  further : {m j c : ℕ} → HungUnder m j c → HungUnder (suc m) j c
  further h = record { first = h.first; most = omega (arith, h.most); parent_is = h.parent_is }

  pub hung-from : (m j c : ℕ) → c ∈ hung A m j → HungUnder m j c
  unfolding hung
  hung-from zero j c h = absurd (Memᴰ.not-nil h)
  hung-from (suc m) j c h = go (test (eqb (parent A (suc m)) j)) (λ k. hung-from m j c k)
    where
      here : parent A (suc m) ≡ j → (c ≡ suc m) ⊎ (c ∈ hung A m j) → (c ∈ hung A m j → HungUnder m j c) → HungUnder (suc m) j c
      here e (inl q) ih = record { first = omega arith; most = omega arith; parent_is = rw q e }
      here e (inr t) ih = further (ih t)

      go : Test (eqb (parent A (suc m)) j) → (c ∈ hung A m j → HungUnder m j c) → HungUnder (suc m) j c
      go (passes t) ih = let e = eqb-true (parent A (suc m)) j t in here e (Memᴰ.cases_cons (rw (hung-yes m j e) at h)) ih
      go (fails t) ih = further (ih (rw (hung-no m j (eqb-false (parent A (suc m)) j t)) at h))

  pub hung-into : (m j c : ℕ) → HungUnder m j c → c ∈ hung A m j
  hung-into zero j c h = absurd (omega (arith, h.first, h.most))
  hung-into (suc m) j c h =
      go (le-suc_iff.0 h.most) (test (eqb (parent A (suc m)) j))
      (λ l. hung-into m j c (record { first = h.first; most = l; parent_is = h.parent_is }))
    where
      go : (c ≤ m) ⊎ (c ≡ suc m) → Test (eqb (parent A (suc m)) j) → (c ≤ m → c ∈ hung A m j) → c ∈ hung A (suc m) j
      go (inl l) (passes t) ih = rw (hung-yes m j (eqb-true (parent A (suc m)) j t)) (Memᴰ.tail (ih l))
      go (inl l) (fails t) ih = rw (hung-no m j (eqb-false (parent A (suc m)) j t)) (ih l)
      go (inr e) t ih = rw (hung-yes m j (rw e at h.parent_is)) (Memᴰ.head e)

  pub hung-desc : (m j : ℕ) → Desc (suc m) (hung A m j)
  unfolding hung
  hung-desc zero j = tt
  hung-desc (suc m) j = go (test (eqb (parent A (suc m)) j)) (hung-desc m j)
    where
      go : Test (eqb (parent A (suc m)) j) → Desc (suc m) (hung A m j) → Desc (suc (suc m)) (hung A (suc m) j)
      go (passes t) s = rw (hung-yes m j (eqb-true (parent A (suc m)) j t)) (omega arith, s)
      go (fails t) s = rw (hung-no m j (eqb-false (parent A (suc m)) j t)) (desc-weaken (suc m) (suc (suc m)) (hung A m j) (omega arith) s)
