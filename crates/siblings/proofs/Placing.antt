-- Proves what arranging one column stores: the keys go behind the W, the children are sorted by them in their place, and the column's W goes to its
-- own place.
-- Assumes nothing.
use Prim.Native.Nat.{ℕ, ◌+◌, ◌-◌}
use mathlib.Core.Path.{◌≡◌, sym, ap, ◌∙◌}
use mathlib.Core.List.{List, ◌++◌}
use native.Mathlib.Omega.{arith}
use lib.ListN.{length, get_or, set, take, drop, length-take}
use lib.Seq.{sets, take-take, take-set-le}
use Rattle.papers.specs.Lists.{◌∈◌, sort}
use Rattle.list_laws.specs.Parts.{part}
use Rattle.list_laws.proofs.Sorts.{sort-elements, sort-length}
use Rattle.list_laws.proofs.SortOrder.{sort-same}
use Rattle.list_laws.proofs.Parts.{part_length, part_at, part_same, part-set}
use Rattle.sibling_sort.specs.Joining.{key_in}
use Rattle.sibling_keys.specs.Kids.{key_at, need_at, Kids, Keyed}
use Rattle.siblings.specs.Arranged.{Sortable, sorted_by, SiblingsSorted, siblings_at, SiblingsPlaced, SiblingsArranged}
use Rattle.tree.proofs.Parts.{back-sets}

-- another order has the same children
kids-sorted : (key : ℕ → ℕ) {factor rooms kids : List ℕ} {j : ℕ} → Kids factor rooms kids j → Kids factor rooms (sort key kids) j
kids-sorted key {factor} {rooms} {kids} pre = record {
  top = pre.top;
  column = λ c m. pre.column c ((sort-elements key c kids).0 m);
  known = λ c m. pre.known c ((sort-elements key c kids).0 m);
  light = λ c m. pre.light c ((sort-elements key c kids).0 m);
  few = omega (arith, pre.few, sort-length key kids);
}

-- ---- the children of one column
module _ (mark : ℕ) {factor kids work work₁ ys : List ℕ} {scratch j w k : ℕ} (pre : Sortable factor kids work scratch j w k)
    (keyed : Keyed k (key_at mark factor (part w k work) j) kids work work₁) (long : length work₁ ≡ length work)
    (es : ys ≡ sort (key_in (part k (length work₁) work₁)) kids)
  where
    rooms_same : part w k work₁ ≡ part w k work
    rooms_same = part_same w k work₁ work keyed.same

    -- the keys that the sort reads
    read : (c : ℕ) → c ∈ kids → key_in (part k (length work₁) work₁) c ≡ key_at mark factor (part w k work) j c
    read c m =
        part_at k (length work₁) work₁ c (omega (arith, pre.children.known c m, length-take (k - w) (drop w work), pre.room, pre.own))
        ∙ keyed.keys c m

    sorted : ys ≡ sorted_by mark factor kids work j w k
    sorted = es ∙ sort-same _ _ kids read

    pub sorted-kids : Kids factor (part w k work₁) ys j
    sorted-kids = rw (rooms_same, sorted) (kids-sorted _ pre.children)

    pub sorted-done : {r : ℕ} → r ≡ need_at factor (part w k work₁) ys j → SiblingsSorted mark factor kids work ys (set work₁ (w + j) r) j w k
    sorted-done {r} er =
        let need : r ≡ need_at factor (part w k work) (sorted_by mark factor kids work j w k) j = rw (rooms_same, sorted) at er in
        record {
          sorted = sorted;
          rooms = part-set w k j r work₁ pre.own ∙ rw (rooms_same, need);
          same = take-set-le w work₁ (w + j) r (omega arith) ∙ (sym (take-take w k work₁ (omega (arith, pre.own)))
              ∙ (ap (take w) keyed.same ∙ take-take w k work (omega (arith, pre.own))));
        }

-- ---- in their place
module _ {factor list work : List ℕ} {scratch j w k : ℕ} (pre : SiblingsPlaced factor list work scratch j w k) where
  abbrev a : ℕ
  a = get_or work j 0

  abbrev e : ℕ
  e = get_or work (j + 1) 0

  kids-length : length (siblings_at work list j) ≡ e - a
  kids-length = part_length a e list pre.rise pre.inside

  pub placed-done : {mark : ℕ} {ys work' : List ℕ} → SiblingsSorted mark factor (siblings_at work list j) work ys work' j w k
      → SiblingsArranged mark factor list work (take a list ++ (ys ++ drop (e - a) (drop a list))) work' j w k
  placed-done {mark} {ys} d =
      let l : length ys ≡ e - a = ap length d.sorted ∙ (sort-length _ (siblings_at work list j) ∙ kids-length) in
      record { lists = back-sets list ys a e pre.rise pre.inside l ∙ ap (sets list a) d.sorted; rooms = d.rooms; same = d.same }
