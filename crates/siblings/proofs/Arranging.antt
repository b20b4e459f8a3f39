-- Proves the steps of the pass over the columns: the lists of the columns before j are sorted by the mark and their W are stored, and the other lists
-- are as they were. So the children of j can be arranged.
-- Assumes nothing.
use Prim.Native.Nat.{ℕ, zero, suc, ◌+◌, ◌<◌, ◌≤◌}
use mathlib.Core.Path.{◌≡◌, refl, sym, ap, ◌∙◌}
use mathlib.Core.List.{List}
use native.Mathlib.Omega.{arith}
use lib.ListN.{length, get_or, take}
use lib.Seq.{get_or-take, length-slice}
use Rattle.papers.specs.Lists.{◌∈◌}
use Rattle.list_laws.specs.Parts.{part}
use Rattle.list_laws.proofs.Parts.{part_slice, part_length}
use Rattle.tree.specs.Blocks.{kids_at}
use Rattle.tree.proofs.Blocks.{kids-are, arranged-zero}
use Rattle.room.specs.Rows.{row_count_in}
use Rattle.siblings.specs.Arranged.{siblings_at, SiblingsPlaced, alone_in, arranged_in, starts_in, Arrangeable, AllArranged}
use Rattle.siblings.proofs.Works.{alone-light}

pub record Arranging (mark : ℕ) (factor list₀ work₀ list work : List ℕ) (scratch₀ scratch w k j : ℕ) : Type 0 where
  pub same : take w work ≡ take w work₀
  pub done : (i : ℕ) → 0 < i → i < j → kids_at (starts_in list₀ work₀) list i ≡ arranged_in mark factor (kids_at (starts_in list₀ work₀) list₀)
      (length list₀) i
  pub rest : (i : ℕ) → j ≤ i → i ≤ length list₀ → kids_at (starts_in list₀ work₀) list i ≡ kids_at (starts_in list₀ work₀) list₀ i
  pub roots : kids_at (starts_in list₀ work₀) list 0 ≡ kids_at (starts_in list₀ work₀) list₀ 0
  pub rooms : (i : ℕ) → 0 < i → i < j → get_or (part w k work) i 0 ≡ alone_in mark factor (kids_at (starts_in list₀ work₀) list₀) (length list₀) i
  pub low : 0 < j
  pub high : j ≤ length list₀ + 1
  pub list-long : length list ≡ length list₀
  pub work-long : length work ≡ length work₀
  pub scratch-long : scratch ≡ scratch₀

module _ {mark : ℕ} {factor list₀ work₀ : List ℕ} {scratch₀ w k : ℕ} (pre : Arrangeable mark factor list₀ work₀ scratch₀ w k) where
  abbrev n : ℕ
  n = length list₀

  abbrev starts : List ℕ
  starts = starts_in list₀ work₀

  abbrev kids : ℕ → List ℕ
  kids = kids_at starts list₀

  -- mark 0 leaves all lists as they are
  pub none-arranged : mark ≡ 0 → AllArranged mark factor list₀ work₀ list₀ work₀ w
  none-arranged e = record { lists = λ j l u. rw e (sym (arranged-zero (row_count_in factor) kids _ j)); roots = refl; same = refl }

  pub start-at : (i : ℕ) → i ≤ n + 1 → get_or starts i 0 ≡ get_or work₀ i 0
  start-at i h = get_or-take (n + 2) work₀ i 0 (omega arith)

  -- the starts do not fall
  pub starts-rise : (i d : ℕ) → i + d ≤ n + 1 → get_or work₀ i 0 ≤ get_or work₀ (i + d) 0
  starts-rise i zero h = let e : i + 0 ≡ i = omega arith in rw e (omega arith)
  starts-rise i (suc d) h =
      let e : i + suc d ≡ i + d + 1 = omega arith in
      rw e (omega (arith, starts-rise i d (omega arith), pre.rise (i + d) (omega arith)))

  module _ {list work : List ℕ} {scratch j : ℕ} (inv : Arranging mark factor list₀ work₀ list work scratch₀ scratch w k j) where
    pub arranging-stop : length list < j → AllArranged mark factor list₀ work₀ list work w
    arranging-stop h = record { lists = λ i l u. inv.done i l (omega (arith, inv.list-long)); roots = inv.roots; same = inv.same }

    pub read : (i : ℕ) → i ≤ n + 1 → get_or work i 0 ≡ get_or work₀ i 0
    read i h =
        let b : i < w = omega (arith, pre.starts) in
        sym (get_or-take w work i 0 b) ∙ (ap (λ l. get_or l i 0) inv.same ∙ get_or-take w work₀ i 0 b)

    module _ (more : j ≤ n) where
      abbrev a : ℕ
      a = get_or work₀ j 0

      abbrev e : ℕ
      e = get_or work₀ (j + 1) 0

      pub here : siblings_at work list j ≡ kids j
      here =
          rw (read j (omega arith), read (j + 1) (omega arith), part_slice a e list, ← (start-at j (omega arith)), ← (start-at (j + 1) (omega arith)))
          (sym (kids-are starts list j) ∙ inv.rest j (omega arith) more)

      pub inside : e ≤ length list
      inside = omega (arith, pre.inside j more, inv.list-long)

      pub rooms-length : length (part w k work) ≡ n + 1
      rooms-length =
          part_length w k work (omega (arith, pre.rooms)) (omega (arith, pre.rooms, pre.room, inv.work-long)) ∙ omega (arith, pre.rooms)

      lower : (c : ℕ) → c ∈ kids j → (0 < c) × (c < j)
      lower c m = pre.family.kin.lower j c inv.low m

      pub known : (c : ℕ) → c ∈ kids j → get_or (part w k work) c 0 ≡ alone_in mark factor kids n c
      known c m = let (l, u) = lower c m in inv.rooms c l u

      -- what arranging column j requires
      pub arranging-placed : SiblingsPlaced factor list work scratch j w k
      arranging-placed = record {
        kids = rw here (record {
          top = pre.family.column j inv.low more;
          column = λ c m. let (l, u) = lower c m in pre.family.column c l (omega arith);
          known = λ c m. let (l, u) = lower c m in omega (arith, rooms-length);
          light = λ c m. let (l, u) = lower c m in rw (known c m) (alone-light pre.family c l (omega arith));
          few = omega (arith, count, pre.inside j more, pre.family.few);
        });
        rise = rw (read j (omega arith), read (j + 1) (omega arith)) (pre.rise j more);
        inside = rw (read (j + 1) (omega arith)) inside;
        starts = omega (arith, pre.starts);
        own = omega (arith, pre.rooms);
        room = omega (arith, pre.rooms, pre.room, inv.work-long);
        enough = omega (arith, pre.enough, inv.list-long, inv.scratch-long);
      }
        where
          count : length (kids j) ≤ get_or work₀ (j + 1) 0
          count =
              rw (
                kids-are starts list₀ j,
                start-at j (omega arith),
                start-at (j + 1) (omega arith),
                length-slice (get_or work₀ j 0) (get_or work₀ (j + 1) 0) list₀ (pre.inside j more),
              )
              (omega arith)
