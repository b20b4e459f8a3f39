-- Proves that arranging one column more changes no other list, since its list is apart from all others; its W comes from those of its children, which
-- are stored.
-- Assumes nothing.
use Prim.Native.Nat.{ℕ, ◌+◌, ◌-◌, ◌<◌, ◌≤◌}
use mathlib.Core.Path.{◌≡◌, ◌∙◌}
use mathlib.Core.Logic.{◌≢◌}
use mathlib.Core.List.{List}
use native.Mathlib.Omega.{arith}
use lib.ListN.{length, get_or}
use lib.Seq.{slice, sets, get_or-set_same, get_or-set_other, length-slice}
use Rattle.list_laws.specs.Parts.{part}
use Rattle.list_laws.proofs.Tests.{Compare, below, level, above, compare}
use Rattle.order_laws.proofs.Arranged.{arranged-length}
use Rattle.tree.specs.Blocks.{kids_at}
use Rattle.tree.proofs.Blocks.{kids-are}
use Rattle.room.specs.Rows.{row_count_in}
use Rattle.siblings.specs.Arranged.{sorted_in, SiblingsArranged, alone_in, arranged_in, starts_in, Arrangeable}
use Rattle.tree.proofs.Parts.{slice-behind, slice-before, slice-run}
use Rattle.siblings.proofs.Works.{sorted-arranged, need-alone}
use Rattle.siblings.proofs.Arranging.{Arranging, start-at, starts-rise, read, here, inside, rooms-length, known}

module _ {mark : ℕ} {factor list₀ work₀ list work : List ℕ} {scratch₀ scratch w k j : ℕ} (pre : Arrangeable mark factor list₀ work₀ scratch₀ w k)
    (inv : Arranging mark factor list₀ work₀ list work scratch₀ scratch w k j) (more : j ≤ length list₀) {list' work' : List ℕ} {scratch' : ℕ}
    (d : SiblingsArranged mark factor list work list' work' j w k) (list-kept : length list' ≡ length list) (work-kept : length work' ≡ length work)
    (scratch-kept : scratch' ≡ scratch)
  where
    abbrev n : ℕ
    n = length list₀

    abbrev starts : List ℕ
    starts = starts_in list₀ work₀

    abbrev kids : ℕ → List ℕ
    kids = kids_at starts list₀

    abbrev a : ℕ
    a = get_or work₀ j 0

    abbrev e : ℕ
    e = get_or work₀ (j + 1) 0

    -- the list of the column itself
    sorted : sorted_in mark factor list work j w k ≡ arranged_in mark factor kids n j
    sorted = rw (here pre inv more) (sorted-arranged pre.family (part w k work) j inv.low more (known pre inv more))

    stored : list' ≡ sets list a (arranged_in mark factor kids n j)
    stored = d.lists ∙ rw (sorted, read pre inv j (omega arith))

    count : length (arranged_in mark factor kids n j) ≡ e - a
    count =
        arranged-length mark (row_count_in factor) kids _ j
        ∙ rw (kids-are starts list₀ j, start-at pre j (omega arith), start-at pre (j + 1) (omega arith)) (length-slice a e list₀ (pre.inside j more))

    own-list : kids_at starts list' j ≡ arranged_in mark factor kids n j
    own-list =
        rw (kids-are starts list' j, start-at pre j (omega arith), start-at pre (j + 1) (omega arith), stored)
        (slice-run (arranged_in mark factor kids n j) list a e (pre.rise j more) (inside pre inv more) count)

    other-list : (i : ℕ) → i ≤ n → i ≢ j → kids_at starts list' i ≡ kids_at starts list i
    other-list i u q =
        rw (kids-are starts list' i, kids-are starts list i, start-at pre i (omega arith), start-at pre (i + 1) (omega arith), stored)
        (go (compare i j))
      where
        go : Compare i j → slice (get_or work₀ i 0) (get_or work₀ (i + 1) 0) (sets list a (arranged_in mark factor kids n j)) ≡ slice (get_or work₀ i 0)
            (get_or work₀ (i + 1) 0) list
        go (below h) =
            let f = starts-rise pre (i + 1) (j - (i + 1)) (omega arith) in
            let g : i + 1 + (j - (i + 1)) ≡ j = omega arith in
            slice-before (arranged_in mark factor kids n j) list a (get_or work₀ i 0) (get_or work₀ (i + 1) 0) (rw g at f)
        go (level h) = absurd (q h)
        go (above h) =
            let f = starts-rise pre (j + 1) (i - (j + 1)) (omega arith) in
            let g : j + 1 + (i - (j + 1)) ≡ i = omega arith in
            let f' : e ≤ get_or work₀ i 0 = rw g at f in
            slice-behind (arranged_in mark factor kids n j) list a (get_or work₀ i 0) (get_or work₀ (i + 1) 0) (omega (arith, count, pre.rise j more))

    own_room : get_or (part w k work') j 0 ≡ alone_in mark factor kids n j
    own_room =
        rw (d.rooms, sorted)
        (get_or-set_same (part w k work) j _ 0 (omega (arith, rooms-length pre inv more)) ∙ need-alone pre.family (part w k work) j inv.low more
        (known pre inv more))

    other-room : (i : ℕ) → i ≢ j → get_or (part w k work') i 0 ≡ get_or (part w k work) i 0
    other-room i q = rw d.rooms (get_or-set_other (part w k work) j i _ 0 q)

    pub arranging-turn : Arranging mark factor list₀ work₀ list' work' scratch₀ scratch' w k (j + 1)
    arranging-turn = record {
      same = d.same ∙ inv.same;
      done = λ i l u. lists i l (compare i j) (omega arith);
      rest = λ i l u. other-list i u (λ q. omega arith) ∙ inv.rest i (omega arith) u;
      roots = other-list 0 (omega arith) (λ q. omega (arith, inv.low)) ∙ inv.roots;
      rooms = λ i l u. needs i l (compare i j) (omega arith);
      low = omega arith;
      high = omega arith;
      list-long = list-kept ∙ inv.list-long;
      work-long = work-kept ∙ inv.work-long;
      scratch-long = scratch-kept ∙ inv.scratch-long;
    }
      where
        lists : (i : ℕ) → 0 < i → Compare i j → i ≤ j → kids_at starts list' i ≡ arranged_in mark factor kids n i
        lists i l (below h) u = other-list i (omega arith) (λ q. omega arith) ∙ inv.done i l h
        lists i l (level h) u = rw h own-list
        lists i l (above h) u = absurd (omega arith)

        needs : (i : ℕ) → 0 < i → Compare i j → i ≤ j → get_or (part w k work') i 0 ≡ alone_in mark factor kids n i
        needs i l (below h) u = other-room i (λ q. omega arith) ∙ inv.rooms i l h
        needs i l (level h) u = rw h own_room
        needs i l (above h) u = absurd (omega arith)
