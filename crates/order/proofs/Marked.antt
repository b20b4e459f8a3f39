-- Proves that the walk over lists arranged by a mark gives the steps of that mark. A subtree takes as many steps under every mark, and no step of its
-- order pops more updates than are held.
-- Assumes nothing.
use Prim.Native.Nat.{ℕ, suc, ◌<◌, ◌≤◌}
use mathlib.Core.Path.{◌≡◌, sym, ap, ◌∙◌}
use mathlib.Core.Logic.{◌↔◌}
use mathlib.Core.List.Memᴰ
use mathlib.Core.List.{List, [], ◌∷◌, ◌++◌, flat_map}
use native.Mathlib.Omega.{arith}
use lib.ListN.{length, get_or, take, length-map}
use Rattle.papers.specs.Lists.{◌∈◌, Distinct, up_to}
use Rattle.papers.specs.Tree.{t, children}
use Rattle.papers.specs.Order.{arranged, steps_of}
use Rattle.list_laws.proofs.Tests.{strong}
use Rattle.list_laws.proofs.Counts.{distinct-length, same_length}
use Rattle.list_laws.proofs.UpTo.{up_to-into, length-up_to}
use Rattle.list_laws.proofs.Members.{flat_map-same}
use Rattle.order_laws.specs.Parents.{Tree}
use Rattle.order_laws.specs.Entries.{entries_after_all}
use Rattle.order_laws.specs.Stack.{held_columns}
use Rattle.order_laws.proofs.Trees.{under-range}
use Rattle.order_laws.proofs.Ordering.{valid-distinct}
use Rattle.order_laws.proofs.Arranged.{arranged-elements, steps-suc, steps-enough}
use Rattle.order_laws.proofs.Orders.{steps-order, marked-ordered}
use Rattle.order_laws.proofs.Steps.{column-at}
use Rattle.order_laws.proofs.Takes.{step-enough}
use Rattle.order_laws.proofs.Entries.{held-entries}
use Rattle.tree.specs.Blocks.{block_of, blocks}
use Rattle.tree.proofs.Blocks.{block-is}

-- ---- lists by the mark

module _ (mark : ℕ) (size : ℕ → ℕ) (kids lists : ℕ → List ℕ) (n : ℕ) (lower : (j c : ℕ) → 0 < j → c ∈ kids j → (0 < c) × (c < j))
    (lists-lower : (j c : ℕ) → 0 < j → c ∈ lists j → (0 < c) × (c < j))
    (same : (j : ℕ) → 0 < j → j ≤ n → lists j ≡ arranged mark size kids (steps_of mark size kids n) j)
  where
    -- a block over them is the steps of the mark
    pub block-marked : (j : ℕ) → 0 < j → j ≤ n → block_of lists j ≡ steps_of mark size kids n j
    unfolding blocks
    block-marked = strong (λ j. 0 < j → j ≤ n → block_of lists j ≡ steps_of mark size kids n j) step
      where
        step : (j : ℕ) → ((c : ℕ) → c < j → 0 < c → c ≤ n → block_of lists c ≡ steps_of mark size kids n c) → 0 < j → j ≤ n
            → block_of lists j ≡ steps_of mark size kids n j
        step j ih l u =
            let cs = arranged mark size kids (steps_of mark size kids n) j in
            let before : flat_map (block_of lists) (lists j) ≡ flat_map (steps_of mark size kids n) cs =
            rw (same j l u) (flat_map-same (block_of lists) (steps_of mark size kids n) cs
            (λ c m. let (a, b) = lower j c l ((arranged-elements mark size kids (steps_of mark size kids n) j c).0 m) in ih c b a (omega arith))) in
            block-is lists lists-lower j l
            ∙ (ap (λ s. s ++ (j ∷ [])) before ∙ sym (steps-enough mark size kids lower n (suc n) j l u (omega arith) ∙ steps-suc mark size kids n j))

-- ---- subtrees of a tree
module _ {par : ℕ → ℕ} {n : ℕ} (tree : Tree par n) where
  steps-once : (mark : ℕ) (size : ℕ → ℕ) (f j : ℕ) → 0 < j → j ≤ f → Distinct (steps_of mark size (children par n) f j)
  steps-once mark size f j l u =
      (valid-distinct par (steps_of mark size (children par n) f j) [] ((steps-order tree mark size f j l u).valid [] (λ x s m. Memᴰ.not-nil m))).0

  -- a subtree takes as many steps under every mark
  pub steps-count : (mark other : ℕ) (size size' : ℕ → ℕ) (f g j : ℕ) → 0 < j → j ≤ f → j ≤ g
      → length (steps_of mark size (children par n) f j) ≡ length (steps_of other size' (children par n) g j)
  steps-count mark other size size' f g j l u v =
      let a = steps-order tree mark size f j l u in
      let b = steps-order tree other size' g j l v in
      same_length _ _ (steps-once mark size f j l u) (steps-once other size' g j l v) (λ x m. (b.all x).1 ((a.all x).0 m))
      (λ x m. (a.all x).1 ((b.all x).0 m))

  -- at most n
  pub steps-short : (mark : ℕ) (size : ℕ → ℕ) (j : ℕ) → 0 < j → j ≤ n → length (steps_of mark size (children par n) n j) ≤ n
  steps-short mark size j l u =
      let a = steps-order tree mark size n j l u in
      omega (
        arith,
        length-up_to n,
        distinct-length (steps_of mark size (children par n) n j) (up_to n) (steps-once mark size n j l u)
            (λ x m. let (p, q) = under-range tree j x l u ((a.all x).0 m) in up_to-into n x p q),
      )

-- ---- the order of a mark
module _ {par : ℕ → ℕ} {n : ℕ} (tree : Tree par n) (mark : ℕ) (size : ℕ → ℕ) (roots : (j : ℕ) → (size j ≡ 0) ↔ (par j ≡ 0)) where
  abbrev pops : ℕ → ℕ
  pops j = length (children par n j)

  abbrev order : List ℕ
  order = flat_map (steps_of mark size (children par n) n) (children par n 0)

  -- no step pops more updates than are held
  pub order-enough : (k : ℕ) → k < length order → pops (get_or order k 0) ≤ length (entries_after_all size pops [] (take k order))
  order-enough k h =
      rw (held-entries size pops par roots order k (omega arith), ← (column-at order k))
      (omega (arith, length-map (held_columns par pops order k) (λ c. t (size c)), step-enough tree order (marked-ordered tree mark size) k h))
