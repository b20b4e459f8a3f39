-- Proves that the stored W of the children decide both their order by the mark and the column's own W.
-- Assumes nothing.
use Prim.Native.Nat.{ℕ, suc, ◌+◌, ◌*◌, ◌<◌, ◌≤◌}
use mathlib.Core.Path.{◌≡◌, refl, sym, ap, ◌∙◌}
use mathlib.Core.List.Memᴰ
use mathlib.Core.List.{List, [], ◌∷◌}
use native.Mathlib.Omega.{arith}
use lib.ListN.{length, get_or}
use Rattle.papers.specs.Bounds.{max_columns}
use Rattle.papers.specs.Lists.{◌∈◌, sort}
use Rattle.papers.specs.Tree.{t}
use Rattle.papers.specs.Room.{rooms, peak_of}
use Rattle.papers.specs.Order.{sibling_key_of, alone, arranged, steps_of}
use Rattle.list_laws.proofs.Sorts.{sort-elements}
use Rattle.list_laws.proofs.SortOrder.{sort-same}
use Rattle.order_laws.specs.Subtrees.{in_turn}
use Rattle.order_laws.proofs.Largest.{largest-least}
use Rattle.order_laws.proofs.Arranged.{steps-enough}
use Rattle.order_laws.proofs.RoomBounds.{rooms-bound}
use Rattle.order_laws.proofs.Needs.{need-children}
use Rattle.room.specs.Rows.{row_count_in, most_entries}
use Rattle.room.proofs.Entries.{entries_fit}
use Rattle.sibling_keys.specs.Kids.{key_at, need_at}
use Rattle.siblings.specs.Arranged.{Family, alone_in, arranged_in}

in-turn-same : (size need other : ℕ → ℕ) (h : ℕ) (cs : List ℕ) → ((c : ℕ) → c ∈ cs → need c ≡ other c)
    → in_turn size need h cs ≡ in_turn size other h cs
unfolding in_turn
in-turn-same size need other h [] e = refl
in-turn-same size need other h (c ∷ cs) e =
    rw (e c (Memᴰ.head refl), in-turn-same size need other (h + t (size c)) cs (λ d m. e d (Memᴰ.tail m)))

module _ {mark : ℕ} {factor : List ℕ} {kids : ℕ → List ℕ} {n : ℕ} (family : Family mark factor kids n) where
  -- W does not exceed n largest fronts
  pub alone-light : (j : ℕ) → 0 < j → j ≤ n → alone_in mark factor kids n j ≤ max_columns * most_entries
  unfolding alone peak_of
  alone-light j l u =
      let steps = steps_of mark (row_count_in factor) kids n j in
      let pops : ℕ → ℕ = λ i. length (kids i) in
      omega (
        arith,
        largest-least (rooms (row_count_in factor) pops [] steps) (n * most_entries)
            (rooms-bound (row_count_in factor) pops n most_entries [] steps (λ i m. entries_fit (suc (row_count_in factor i)) (omega (arith, family.rows i)))
            (λ x m. absurd (Memᴰ.not-nil m)) (omega (arith, family.short j l u))),
        family.few,
      )

  module _ (rooms : List ℕ) (j : ℕ) (low : 0 < j) (high : j ≤ n) (known : (c : ℕ) → c ∈ kids j → get_or rooms c 0 ≡ alone_in mark factor kids n c) where
    -- sorting the children by the keys gives their order by the mark
    pub sorted-arranged : sort (key_at mark factor rooms j) (kids j) ≡ arranged_in mark factor kids n j
    unfolding arranged
    sorted-arranged = sort-same _ _ (kids j) (λ c m. ap (sibling_key_of mark (row_count_in factor j) (row_count_in factor c)) (known c m))

    -- the W computed from the children's is that of the column
    pub need-alone : need_at factor rooms (arranged_in mark factor kids n j) j ≡ alone_in mark factor kids n j
    unfolding alone arranged
    need-alone =
        let cs = arranged_in mark factor kids n j in
        let own : ℕ → ℕ = λ c. alone_in mark factor kids n c in
        let same = in-turn-same (row_count_in factor) (λ c. get_or rooms c 0) own 0 cs (λ c m. known c ((sort-elements _ c (kids j)).0 m)) in
        let deeper = ap (peak_of (row_count_in factor) (λ i. length (kids i))) (steps-enough mark (row_count_in factor) kids family.kin.lower n (suc n) j low
        high (omega arith)) in
        rw same (sym (deeper ∙ need-children mark (row_count_in factor) kids family.kin n j low (omega arith)))
