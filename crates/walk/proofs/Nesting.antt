-- Proves that calls nest no deeper than the number of columns can be halved: a call is made for the smaller of two siblings' blocks, at most half of
-- both, and the block that is handed back takes no call.
-- Assumes nothing.
use Prim.Native.Nat.{ℕ, zero, suc, ◌+◌, ◌*◌, ◌^◌, ◌<◌, ◌≤◌, max}
use mathlib.Core.Path.{◌≡◌, refl, ap, ◌∙◌}
use mathlib.Core.Bool.{Bool, true, false}
use mathlib.Core.List.Memᴰ
use mathlib.Core.List.{List, [], ◌∷◌}
use native.Mathlib.Omega.{arith}
use lib.Dec.{leb}
use lib.ListN.{length, length-append}
use borrow.Author.Tests.{leb-true, leb-false}
use Rattle.papers.specs.Lists.{◌∈◌}
use Rattle.tree.specs.Blocks.{block_of, blocks, kids_at}
use Rattle.tree.proofs.Blocks.{blocks-cons, block-count}
use Rattle.walk.specs.Levels.{levels}
use Rattle.walk.specs.Tasks.{Asked, kids_steps}
use Rattle.walk.specs.Nesting.{handed, nest_kids, nest_column, nest_steps}
use Rattle.walk.proofs.Levels.{levels-mono, levels-half, levels-few}

-- how deep calls nest below the siblings' task, and then below the column's task of the child handed back, for a list of columns
record Few (deep back all : ℕ) : Type 0 where
  below : deep + 3 ≤ max 3 (2 * levels all)
  on : back + 2 ≤ 2 * levels all

-- one more sibling: a call does s columns, at most half of all, and below it calls nest n deep
few-more : {deep back rest : ℕ} (all n s : ℕ) → Few deep back rest → rest ≤ all → n + 2 ≤ 2 * levels s → 0 < all → s + s ≤ all
    → Few (max (1 + n) deep) back all
few-more {rest = rest} all n s f h g l half =
    let m = levels-mono rest all h in
    let k = levels-half s all l half in
    record { below = omega (arith, f.below); on = omega (arith, f.on) }

module _ (kids : ℕ → List ℕ) (lower : (j c : ℕ) → 0 < j → c ∈ kids j → (0 < c) × (c < j)) where
  -- the columns of c's subtree
  abbrev size : ℕ → ℕ
  size c = length (block_of kids c)

  some : (c : ℕ) → 0 < c → 0 < size c
  some c l = omega (arith, block-count kids lower c l)

  -- the columns of the child kept and of those to come, together
  abbrev together : ℕ → List ℕ → ℕ
  together kept cs = size kept + length (blocks kids cs)

  more : (c : ℕ) (cs : List ℕ) → length (blocks kids (c ∷ cs)) ≡ size c + length (blocks kids cs)
  more c cs = ap length (blocks-cons kids c cs) ∙ length-append (block_of kids c) (blocks kids cs)

  -- ---- below a column's task calls nest as nests says, which is no deeper than its columns can be halved
  module _ (nests : ℕ → ℕ) (few : (c : ℕ) → 0 < c → nests c + 2 ≤ 2 * levels (size c)) where
    kids-few : (kept : ℕ) (cs : List ℕ) → 0 < kept → ((c : ℕ) → c ∈ cs → 0 < c)
        → Few (nest_kids kids nests kept cs) (nests (handed kids kept cs)) (together kept cs)
    unfolding nest_kids handed
    kids-few kept [] l h =
        let m = levels-mono (size kept) (together kept []) (omega arith) in
        record { below = omega arith; on = omega (arith, few kept l) }
    kids-few kept (c ∷ cs) l h =
        let rest : (d : ℕ) → d ∈ cs → 0 < d = λ d m. h d (Memᴰ.tail m) in
        go (leb (size c) (size kept)) refl (h c (Memᴰ.head refl)) (kids-few kept cs l rest) (kids-few c cs (h c (Memᴰ.head refl)) rest)
      where
        go : (b : Bool) → leb (size c) (size kept) ≡ b → 0 < c → Few (nest_kids kids nests kept cs) (nests (handed kids kept cs)) (together kept cs)
            → Few (nest_kids kids nests c cs) (nests (handed kids c cs)) (together c cs)
            → Few (nest_kids kids nests kept (c ∷ cs)) (nests (handed kids kept (c ∷ cs))) (together kept (c ∷ cs))
        go true e k p q =
            let n = more c cs in
            let s = leb-true (size c) (size kept) e in
            rw (e, nest_kids, handed)
            (few-more (together kept (c ∷ cs)) (nests c) (size c) p (omega arith) (few c k) (omega (arith, some c k)) (omega arith))
        go false e k p q =
            let n = more c cs in
            let s = leb-false (size c) (size kept) e in
            rw (e, nest_kids, handed)
            (few-more (together kept (c ∷ cs)) (nests kept) (size kept) q (omega arith) (few kept l) (omega (arith, some c k)) (omega arith))

  -- below a column's task: its children have a column less, and a call does them if there are any
  column-few : (f j : ℕ) → 0 < j → nest_column kids f j + 2 ≤ 2 * levels (size j)
  unfolding nest_column
  column-few zero j l = omega (arith, levels-half 0 (size j) (some j l) (omega arith))
  column-few (suc f) j l = go (kids j) refl (kids-few (nest_column kids f) (λ c k. column-few f c k))
    where
      go : (cs : List ℕ) → kids j ≡ cs
          → ((kept : ℕ) (ds : List ℕ) → 0 < kept → ((c : ℕ) → c ∈ ds → 0 < c)
          → Few (nest_kids kids (nest_column kids f) kept ds) (nest_column kids f (handed kids kept ds)) (together kept ds))
          → nest_column kids (suc f) j + 2 ≤ 2 * levels (size j)
      go [] e k = rw (e, nest_column) (omega (arith, levels-half 0 (size j) (some j l) (omega arith)))
      go (c ∷ cs) e k =
          let child : (d : ℕ) → d ∈ (c ∷ cs) → 0 < d = λ d m. (lower j d l (rw e m)).0 in
          let first = child c (Memᴰ.head refl) in
          let n : size j ≡ together c cs + 1 = omega (arith, block-count kids lower j l, ap (λ ds. length (blocks kids ds)) e, more c cs) in
          let few = k c cs first (λ d m. child d (Memᴰ.tail m)) in
          let m = levels-mono (together c cs) (size j) (omega arith) in
          let one = levels-half 0 1 (omega arith) (omega arith) in
          let two = levels-half 1 (size j) (omega arith) (omega (arith, some c first)) in
          rw (e, nest_column) (omega (arith, few.below, few.on))

  -- in the walk over all columns: the roots' blocks are all steps
  steps-few : (f : ℕ) → ((c : ℕ) → c ∈ kids 0 → 0 < c) → nest_steps kids f ≤ 2 * levels (length (blocks kids (kids 0)))
  unfolding nest_steps
  steps-few f roots = go (kids 0) refl
    where
      go : (cs : List ℕ) → kids 0 ≡ cs → nest_steps kids f ≤ 2 * levels (length (blocks kids (kids 0)))
      go [] e = rw (e, nest_steps) (omega arith)
      go (c ∷ cs) e =
          let root : (d : ℕ) → d ∈ (c ∷ cs) → 0 < d = λ d m. roots d (rw e m) in
          let first = root c (Memᴰ.head refl) in
          let few = kids-few (nest_column kids f) (column-few f) c cs first (λ d m. root d (Memᴰ.tail m)) in
          let one = levels-half 0 (together c cs) (omega (arith, some c first)) (omega arith) in
          rw (e, more c cs, nest_steps) (omega (arith, few.below, few.on))

-- for any lists: over fewer than 2 ^ k columns the calls of the walk nest at most 2 k deep
pub nests-few : {starts list counts : List ℕ} {left at room : ℕ} → Asked starts list counts 0 left at room (kids_steps starts list 0)
    → (k : ℕ) → left < 2 ^ k → nest_steps (kids_at starts list) (length counts) ≤ 2 * k
nests-few {starts} {list} {counts} {left} a k h =
    let steps = steps-few (kids_at starts list) a.laid.lower (length counts) (λ c m. (a.laid.known 0 c a.known m).0) in
    let few = levels-few k (length (kids_steps starts list 0)) (omega (arith, a.count)) in
    omega arith
