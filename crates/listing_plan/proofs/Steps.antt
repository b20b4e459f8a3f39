-- Proves that the lines printed from the slices of an analysis are the job's: each column's rows are between its starts, and the rooms of the steps
-- are those of the columns.
-- Assumes nothing.
use Prim.Native.Nat.{ℕ, zero, suc, ◌<◌, ◌≤◌}
use mathlib.Core.Path.{◌≡◌, refl, sym, ap, ◌∙◌}
use mathlib.Core.List.{List, [], ◌∷◌, ◌++◌, map, append-nil, append_assoc}
use native.Mathlib.Omega.{arith}
use lib.ListN.{length, get_or, take}
use lib.Seq.{take-suc, take-length}
use Rattle.papers.specs.Bounds.{max_columns, max_mark, work_length_for}
use Rattle.papers.specs.Lists.{flat}
use Rattle.papers.specs.Job.{Pattern, Below, column_of}
use Rattle.papers.specs.Fill.{R}
use Rattle.papers.specs.Tree.{row_count}
use Rattle.papers.specs.Room.{rooms, room_at, entries_after}
use Rattle.papers.specs.Order.{pops_of, order_of, rooms_of}
use Rattle.papers.specs.Key.{lists_of}
use Rattle.papers.specs.Text.{decimal_of, printed, step_lines}
use Rattle.list_laws.proofs.Members.{at_place}
use Rattle.job_laws.proofs.Starts.{start-at, start-within}
use Rattle.job_laws.proofs.Laid.{length-lists, lists_at, laid-column, laid-starts}
use Rattle.order_laws.specs.Entries.{entries_after_all}
use Rattle.order_laws.proofs.Rooms.{rooms-nil, rooms-cons, rooms-append}
use Rattle.order_laws.proofs.Steps.{column-at}
use Rattle.order_laws.proofs.Patterns.{order-ordered}
use Rattle.room.specs.Rows.{row_count_in}
use Rattle.room.proofs.BySteps.{pops-here, entries-by-steps}
use Rattle.order.specs.Given.{Given}
use Rattle.order.proofs.Peaks.{peak-asked}
use Rattle.order.proofs.Ties.{parents_of, starts_of, length-parents, rows-tie, same-order, same-pops, rowed}
use Rattle.listing_steps.specs.Steps.{line_behind, lines_to, Printable}

-- ---- lines of steps

module _ (n : ℕ) (A : Pattern) where
  -- one step more is one line more
  lines_snoc : (js rs : List ℕ) (j r : ℕ) → length js ≡ length rs
      → step_lines n A (js ++ (j ∷ [])) (rs ++ (r ∷ [])) ≡ step_lines n A js rs ++ printed (decimal_of j) (pops_of n A j ∷ r ∷ R A j)
  unfolding step_lines
  lines_snoc [] [] j r e = append-nil (printed (decimal_of j) (pops_of n A j ∷ r ∷ R A j))
  lines_snoc [] (x ∷ rs) j r e = absurd (omega arith)
  lines_snoc (i ∷ js) [] j r e = absurd (omega arith)
  lines_snoc (i ∷ js) (x ∷ rs) j r e =
      let line = printed (decimal_of i) (pops_of n A i ∷ x ∷ R A i) in
      ap (λ (l : List ℕ). line ++ l) (lines_snoc js rs j r (omega arith)) ∙ sym (append_assoc line (step_lines n A js rs) _)

  length-rooms : (entries js : List ℕ) → length (rooms (row_count A) (pops_of n A) entries js) ≡ length js
  unfolding rooms
  length-rooms entries [] = refl
  length-rooms entries (j ∷ js) = ap (λ (k : ℕ). suc k) (length-rooms (entries_after (pops_of n A j) (row_count A j) entries) js)

  module _ (order starts rows : List ℕ) (sized : row_count_in starts ≡ row_count A) (listed : (k : ℕ) → k < length order
      → column_of starts rows (get_or order k 0) ≡ R A (get_or order k 0)) where
    abbrev pops : List ℕ
    pops = map (pops_of n A) order

    -- the line of a step
    line-is : (k : ℕ) → k < length order
        → line_behind order (map (pops_of n A) order) starts rows k
        ≡ printed (decimal_of (get_or order k 0)) (pops_of n A (get_or order k 0) ∷ room_at (pops_of n A (get_or order k 0)) (row_count A (get_or order k 0))
        (entries_after_all (row_count A) (pops_of n A) [] (take k order)) ∷ R A (get_or order k 0))
    unfolding line_behind
    line-is k h =
        rw (
          ← (column-at pops k),
          entries-by-steps (row_count_in starts) (pops_of n A) order k (omega arith),
          pops-here (row_count_in starts) (pops_of n A) order k h,
          column-at order k,
          sized,
          listed k h,
        )

    lines-to : (k : ℕ) → k ≤ length order
        → lines_to order (map (pops_of n A) order) starts rows k ≡ step_lines n A (take k order) (rooms (row_count A) (pops_of n A) [] (take k order))
    unfolding lines_to step_lines
    lines-to zero h = refl
    lines-to (suc k) h =
        rw (
          lines-to k (omega arith),
          line-is k (omega arith),
          take-suc order k 0 (omega arith),
          rooms-append (row_count A) (pops_of n A) [] (take k order) (get_or order k 0 ∷ []),
          rooms-cons,
          rooms-nil,
        )
        (sym (lines_snoc (take k order) _ (get_or order k 0) _ (sym (length-rooms [] (take k order)))))

    pub lines-all : lines_to order (map (pops_of n A) order) starts rows (length order) ≡ step_lines n A order (rooms_of n A order)
    unfolding rooms_of
    lines-all = rw (take-length order) at (lines-to (length order) (omega arith))

-- ---- an analysed order, with its lists one behind the other

module _ {n : ℕ} {A : Pattern} (good : Below n A) where
  abbrev rows_of : List ℕ
  rows_of = flat (lists_of n (R A))

  column-is : (j : ℕ) → 1 ≤ j → j ≤ n → column_of (starts_of n A) (flat (lists_of n (R A))) j ≡ R A j
  column-is zero l h = absurd (omega arith)
  column-is (suc k) l h = laid-column (lists_of n (R A)) k (omega (arith, length-lists (R A) n)) ∙ lists_at (R A) n k (omega arith)

  module _ (mark : ℕ) where
    abbrev order : List ℕ
    order = order_of mark n A

    in-range : (k : ℕ) → k < length (order_of mark n A) → (1 ≤ get_or (order_of mark n A) k 0) × (get_or (order_of mark n A) k 0 ≤ n)
    in-range k h = ((order-ordered good mark).each (get_or order k 0)).0 (at_place order k h)

    pub lines_same : lines_to (order_of mark n A) (map (pops_of n A) (order_of mark n A)) (starts_of n A) (flat (lists_of n (R A)))
        (length (order_of mark n A))
        ≡ step_lines n A (order_of mark n A) (rooms_of n A (order_of mark n A))
    lines_same =
        lines-all n A order (starts_of n A) rows_of (λ i j. rows-tie good j i) (λ k h. column-is (get_or order k 0) (in-range k h).0 (in-range k h).1)

    pub steps-printable : n ≤ max_columns → mark ≤ max_mark
        → Printable (order_of mark n A) (map (pops_of n A) (order_of mark n A)) (starts_of n A) (flat (lists_of n (R A)))
    steps-printable few marked =
        record {
          stepped = peak-asked given (sym (same-order good mark)) (rw (same-pops good, same-order good mark));
          inside = λ k h. rw (← (start-at (starts_of n A) (get_or order k 0))) (start-within (laid-starts (lists_of n (R A))) (suc (get_or order k 0))
              (omega arith) (omega (arith, (in-range k h).1, length-lists (R A) n)));
        }
      where
        given : Given mark (parents_of n A) (starts_of n A) (length (parents_of n A)) (length (parents_of n A)) (work_length_for (length (parents_of n A)))
        given =
            record {
              rowed = rowed good few;
              columns = omega (arith, length-parents good);
              marked = marked;
              order-length = refl;
              pops_length = refl;
              work-length = omega arith;
            }
