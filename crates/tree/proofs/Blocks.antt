-- Proves facts of blocks of steps: a column comes after the blocks of its children, and the blocks of siblings follow one another.
-- Assumes nothing.
use Prim.Native.Nat.{ℕ, zero, suc, ◌+◌, ◌<◌, ◌≤◌}
use mathlib.Core.Path.{◌≡◌, refl, sym, ap, ◌∙◌}
use mathlib.Core.List.{List, [], ◌∷◌, ◌++◌, flat_map, append_assoc}
use native.Mathlib.Omega.{arith}
use native.Mathlib.Numerals.{add-one}
use lib.ListN.{length, get_or, length-append}
use lib.Seq.{slice, slice-cons}
use Rattle.papers.specs.Lists.{◌∈◌}
use Rattle.papers.specs.Order.{sibling_key_of, arranged, steps_of}
use Rattle.list_laws.proofs.Members.{flat_map-same}
use Rattle.list_laws.proofs.SortOrder.{sort-level}
use Rattle.list_laws.proofs.Slices.{slice-none}
use Rattle.order_laws.proofs.Arranged.{steps-suc, steps-enough}
use Rattle.tree.specs.Blocks.{block_of, blocks, kids_at}

-- mark 0 keeps the order of children
pub arranged-zero : (size : ℕ → ℕ) (kids : ℕ → List ℕ) (steps : ℕ → List ℕ) (j : ℕ) → arranged 0 size kids steps j ≡ kids j
unfolding arranged sibling_key_of
arranged-zero size kids steps j = sort-level _ (λ c. refl) (kids j)

module _ (kids : ℕ → List ℕ) where
  pub block_none : block_of kids 0 ≡ []
  unfolding block_of steps_of
  block_none = refl

  pub blocks-nil : blocks kids [] ≡ []
  unfolding blocks flat_map
  blocks-nil = refl

  pub blocks-cons : (c : ℕ) (cs : List ℕ) → blocks kids (c ∷ cs) ≡ block_of kids c ++ blocks kids cs
  unfolding blocks flat_map
  blocks-cons c cs = refl

  pub blocks-append : (a b : List ℕ) → blocks kids (a ++ b) ≡ blocks kids a ++ blocks kids b
  blocks-append [] b = rw blocks-nil refl
  blocks-append (c ∷ a) b =
      rw (blocks-cons c (a ++ b), blocks-cons c a, blocks-append a b) (sym (append_assoc (block_of kids c) (blocks kids a) (blocks kids b)))

  module _ (lower : (j c : ℕ) → 0 < j → c ∈ kids j → (0 < c) × (c < j)) where
    -- a column after its children
    pub block-is : (j : ℕ) → 0 < j → block_of kids j ≡ blocks kids (kids j) ++ (j ∷ [])
    unfolding block_of blocks
    block-is zero l = absurd (omega arith)
    block-is (suc k) l =
        steps-suc 0 (λ c. 0) kids k (suc k)
        ∙ rw (arranged-zero (λ c. 0) kids (steps_of 0 (λ c. 0) kids k) (suc k))
        (ap (λ l. l ++ (suc k ∷ [])) (flat_map-same (steps_of 0 (λ c. 0) kids k) (block_of kids) (kids (suc k)) (λ c m. let (a, b) = lower (suc k) c l m in
        steps-enough 0 (λ c. 0) kids lower k c c a (omega arith) (omega arith))))

    pub block-count : (j : ℕ) → 0 < j → length (block_of kids j) ≡ length (blocks kids (kids j)) + 1
    block-count j l = ap length (block-is j l) ∙ length-append (blocks kids (kids j)) (j ∷ [])

  -- ---- siblings from place i to place e of the list
  pub blocks-next : (list : List ℕ) (i e : ℕ) → i < e → e ≤ length list
      → blocks kids (slice i e list) ≡ block_of kids (get_or list i 0) ++ blocks kids (slice (i + 1) e list)
  blocks-next list i e h g = rw (add-one, slice-cons i e list 0 h g) (blocks-cons (get_or list i 0) (slice (suc i) e list))

  pub blocks-none : (list : List ℕ) (i e : ℕ) → e ≤ i → blocks kids (slice i e list) ≡ []
  blocks-none list i e h = rw (slice-none i e list h) blocks-nil

pub kids-are : (starts list : List ℕ) (j : ℕ) → kids_at starts list j ≡ slice (get_or starts j 0) (get_or starts (j + 1) 0) list
unfolding kids_at
kids-are starts list j = refl
