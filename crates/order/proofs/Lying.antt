-- Proves that the lists of children, laid out in work and in the list with the descendants behind them and arranged by the mark, are in the form that
-- the walk takes.
-- Assumes nothing.
use Prim.Native.Nat.{ℕ, ◌+◌, ◌<◌, ◌≤◌}
use mathlib.Core.Path.{◌≡◌, sym, ap, ◌∙◌}
use mathlib.Core.List.{List}
use native.Mathlib.Omega.{arith}
use lib.ListN.{length, get_or, take}
use lib.Seq.{sets, length-take-le, take-take, get_or-take, length-slice}
use Rattle.tree.specs.Parents.{kids_in}
use Rattle.tree.specs.Blocks.{kids_at}
use Rattle.list_laws.specs.Parts.{part}
use Rattle.list_laws.proofs.Parts.{part_length, part_same}
use Rattle.tree.specs.Laid.{LaidOut}
use Rattle.tree.proofs.Blocks.{kids-are}
use Rattle.order.specs.Given.{Given, ChildStarts, StepsWritten}
use Rattle.walk.specs.Tasks.{kids_steps}
use Rattle.siblings.specs.Arranged.{arranged_in, Arrangeable, AllArranged}
use Rattle.order.proofs.Families.{family-of, lists-end, lists-are}
use Rattle.order.proofs.Walked.{Lists, walk-wrote}

module _ {mark : ℕ} {parents factor list work : List ℕ} {order pops lent : ℕ} (given : Given mark parents factor order pops lent)
    (laid : LaidOut parents list work)
    (list-kept : length list ≡ pops) (work-kept : length work ≡ lent)
  where
    abbrev columns : ℕ
    columns = length parents

    abbrev m : ℕ
    m = columns + 2

    abbrev w : ℕ
    w = m + columns + 1

    abbrev k : ℕ
    k = w + columns + 1

    list_length : length list ≡ columns
    list_length = list-kept ∙ given.pops_length

    start-length : length (take m work) ≡ m
    start-length = length-take-le m work (omega (arith, given.work-length))

    start-at : (j : ℕ) → j ≤ columns + 1 → get_or work j 0 ≡ get_or (take m work) j 0
    start-at j h = sym (get_or-take m work j 0 (omega arith))

    kids-lie : kids_at (take m work) list ≡ (λ j. kids_in parents j)
    kids-lie = lists-are parents given.rowed.tree laid.lie start-length

    -- what arranging requires
    pub arrange-asked : Arrangeable mark factor list work order w k
    arrange-asked = record {
      family = rw (list_length, kids-lie) (family-of given.rowed mark given.columns);
      rise = λ j h. rw (start-at j (omega (arith, list_length)), start-at (j + 1) (omega (arith, list_length)))
          (laid.lie.rise j (omega (arith, list_length)));
      inside = λ j h. rw (start-at (j + 1) (omega (arith, list_length))) (laid.lie.inside j (omega (arith, list_length)));
      starts = omega (arith, list_length);
      rooms = omega (arith, list_length);
      room = omega (arith, list_length, work-kept, given.work-length);
      enough = omega (arith, list_length, given.order-length);
    }

    -- ---- arranged
    module _ {list' work' : List ℕ} (all : AllArranged mark factor list work list' work' w) (List-same : length list' ≡ length list) where
      start-same : take m work' ≡ take m work
      start-same = sym (take-take m w work' (omega arith)) ∙ (ap (take m) all.same ∙ take-take m w work (omega arith))

      back-same : part m w work' ≡ part m w work
      back-same = part_same m w work' work all.same

      arranged-lists : (j : ℕ) → 0 < j → j ≤ columns → kids_at (take m work) list' j ≡ arranged_in mark factor (kids_in parents) columns j
      arranged-lists j l u = rw (list_length, kids-lie) at (all.lists j l (omega (arith, list_length)))

      root-list : kids_at (take m work) list' 0 ≡ kids_in parents 0
      root-list = (rw list_length at all.roots) ∙ laid.lie.same 0 (omega arith)

      pub lists-lie : Lists mark parents factor (take m work') list' (part m w work')
      lists-lie = rw (start-same, back-same) (record {
        rowed = given.rowed;
        few = given.columns;
        inside = λ j h. omega (arith, laid.lie.inside j h, List-same);
        past = λ j h. lists-end parents given.rowed.tree laid.lie start-length list' j h;
        lists = arranged-lists;
        roots = root-list;
        descendants = laid.descendants;
        long = start-length;
        many = part_length m w work (omega arith) (omega (arith, work-kept, given.work-length)) ∙ omega arith;
      })

      -- the starts fill the first places of work, as the walk takes them
      pub starts-long : length (take m work') ≡ m
      starts-long = rw start-same start-length

      -- the starts are those of the children's lists
      starts-lie : ChildStarts parents (take m work')
      starts-lie = rw start-same (record {
        count = λ j h. sym (length-slice (get_or (take m work) j 0) (get_or (take m work) (j + 1) 0) list (laid.lie.inside j h)) ∙ ap length
            (sym (kids-are (take m work) list j) ∙ laid.lie.same j h);
        rise = λ j h. laid.lie.rise j h;
        inside = λ j h. omega (arith, laid.lie.inside j h, list_length);
      })

      pub steps-written : (before : List ℕ) {order' : List ℕ} → order' ≡ sets before 0 (kids_steps (take m work') list' 0) → length before ≡ columns
          → StepsWritten mark parents factor order' work'
      steps-written before q e = record { steps = walk-wrote lists-lie before e q; starts = starts-lie }
