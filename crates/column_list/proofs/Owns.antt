-- Proves what is known of the next column's pattern rows and first child. The rows ascend and belong to R(m + 1), and without a child they are R(m +
-- 1). The first child heads the chain of children, so its link has a place.
-- Assumes nothing.
use Prim.Native.Nat.{ℕ, ◌+◌, ◌<◌}
use mathlib.Core.Path.{◌≡◌, refl}
use mathlib.Core.Logic.{◌≢◌}
use mathlib.Core.List.Memᴰ
use mathlib.Core.List.{List, [], ◌∷◌}
use native.Mathlib.Omega.{arith}
use lib.ListN.{length, get_or}
use Rattle.papers.specs.Lists.{◌∈◌, Asc}
use Rattle.papers.specs.Job.{column_of}
use Rattle.papers.specs.Fill.{R}
use Rattle.list_laws.proofs.Ascending.{asc-above}
use Rattle.fill_laws.proofs.Fill.{R-pattern}
use Rattle.column_laws.proofs.Chains.{chain-end, chain-on}
use Rattle.linked_children.specs.Children.{handed_rows}
use Rattle.child_lists.specs.Marks.{marked, Markable, Changed}
use Rattle.child_lists.specs.Joining.{Makes}
use Rattle.child_lists.proofs.Marks.{changed-marked}
use Rattle.child_lists.proofs.Making.{makes-end}
use Rattle.column_list.specs.Hung.{hung}
use Rattle.column_list.specs.Stored.{Next}
use Rattle.column_list.proofs.Gathering.{below, chain, siblings, makes}

module _ {n m : ℕ} {starts rows fs fr w : List ℕ} (g : Next n m starts rows fs fr w) where
  -- ---- the pattern rows

  module _ {own : List ℕ} (o : own ≡ column_of starts rows (m + 1)) where
    pub own-asc : Asc (m + 1) own
    own-asc = rw o ((below g).ascending (m + 1))

    pub own_in : (i : ℕ) → i ∈ own → i ∈ R (column_of starts rows) (m + 1)
    own_in i t = R-pattern (below g) (m + 1) i (rw o at t)

    -- they and what the children hand on make R(m + 1)
    pub own-makes : Makes (m + 1) (handed_rows fs fr) (hung (column_of starts rows) m (m + 1)) own (R (column_of starts rows) (m + 1))
    own-makes = makes g own own-asc (λ i t. rw o t) own_in

    -- without a child they are R(m + 1)
    pub own_alone : get_or w (m + 1) 0 ≡ 0 → own ≡ R (column_of starts rows) (m + 1)
    own_alone z =
        let none = chain-end w n (get_or w (m + 1) 0) (hung (column_of starts rows) m (m + 1)) (chain g) z in makes-end (rw none at own-makes)

    pub own-markable : Markable n own w
    own-markable = record { most = λ i t. (below g).within i (m + 1) (rw o at t); long = g.stored.work-long }

    -- marking them changes only marks
    pub own-change : {w₁ : List ℕ} → w₁ ≡ marked n (m + 1) own w → Changed n (m + 1) w w₁
    own-change e = rw e (changed-marked n (m + 1) own w (λ i t. omega (arith, asc-above (m + 1) own own-asc t)))

  -- ---- the first child

  module _ (some : get_or w (m + 1) 0 ≢ 0) where
    pub first-child : get_or w (m + 1) 0 ∈ hung (column_of starts rows) m (m + 1)
    first-child = rw (chain-on w n (get_or w (m + 1) 0) (hung (column_of starts rows) m (m + 1)) (chain g) some).is (Memᴰ.head refl)

    pub first-linked : n + get_or w (m + 1) 0 < length w
    first-linked = let s = siblings g in omega (arith, s.most (get_or w (m + 1) 0) first-child, s.links)

    -- it is the only one if its link ends the chain
    pub only_child : get_or w (n + get_or w (m + 1) 0) 0 ≡ 0 → hung (column_of starts rows) m (m + 1) ≡ get_or w (m + 1) 0 ∷ []
    only_child q =
        let on = chain-on w n (get_or w (m + 1) 0) (hung (column_of starts rows) m (m + 1)) (chain g) some in
        let end = chain-end w n (get_or w (n + get_or w (m + 1) 0) 0) on.rest on.chain q in
        rw end at on.is
