-- Proves the pieces of the rules' bench, and their other worked examples, as ONE claim over a list. Each piece is computed through the
-- definition of the entry point that it concerns.
-- Assumes nothing.
use Prim.Native.Nat.{ℕ, ◌+◌}
use mathlib.Core.Path.{◌≡◌, refl}
use mathlib.Core.Bool.{Bool, true, false, ◌&&◌}
use mathlib.Core.List.{List, [], ◌∷◌, ◌++◌, flat_map}
use lib.Dec.{eqb}
use lib.ListN.{length, replicate, take, drop}
use Rattle.papers.specs.Bounds.{work_length_for}
use Rattle.papers.specs.Lists.{up_to, head0, member, same, every, keep, sum, largest, merge, insert, sort, least, flat, starts_counted_from, then_zeros}
use Rattle.papers.specs.Refusals.{answer, first, refused_if, refused_at, fault_test, outcome}
use Rattle.papers.specs.Job.{Job, start, column_of, pattern, falls_at_place, fault_of_row, fault_of_rows, column_fault, job_refusals}
use Rattle.papers.specs.Fill.{gather, lists, R}
use Rattle.papers.specs.Tree.{parent, t, children, is_under, subtree_of}
use Rattle.papers.specs.Room.{top_update, room_at, entries_after, rooms, peak_of, front_room}
use Rattle.papers.specs.Order.{column_at_step, sibling_key_of, alone, arranged, steps_of, order_of, rooms_of, order_peak, scattered}
use Rattle.papers.specs.Numbers.{groups_of, bytes_of, encode, over, last_group, read_from, number_read_from, then, onto, within_field, field, at_end, differs_at}
use Rattle.papers.specs.Key.{gaps_of, list_numbers, lists_numbers, lists_of, key_numbers, key_of, rows_read_from, list_read_from, lists_read_from}
use Rattle.papers.specs.Plan.{plan_of, step_numbers, plan_numbers, bytes_of_plan, step_read_from, steps_read_from, plan_read_from, plan_read, plan_for}
use Rattle.papers.specs.Analysis.{Lent, all_zero, holding_plan, analysis_done, analysed, plan_done, plan_zero, plan_written, some_short}
use Rattle.papers.specs.Analysis.{early_refusals, analysis_early, analysis_late, plan_early, plan_late}
use Rattle.papers.specs.Check.{read_test, repeated_at, true_peak_of, check_done, checked, judge_refusals, plan_test, plan_refusals, check_early}
use Rattle.papers.specs.Check.{check_late}
use Rattle.papers.specs.Text.{is_decimal_digit, starting_with, cut, after_lines, on_word, words_of, is_decimal_number, all_decimal, value_of, numbers_of, numbers_at, head_of}
use Rattle.papers.specs.Text.{rows_of_line, is_row_line, head_of_text, text_lists, text_job, line_fault, text_refusals}
use Rattle.papers.specs.Text.{digits_of, decimal_of, printed, refusal_line, step_lines, listing_of, buffers, job_printed, program_prints}
use Rattle.papers.specs.declared.Answer.{Answer}
use Rattle.pieces.proofs.Worked.{none, pair, pair_bytes, loose, dense, filling, crossed, star, nine, nine_text, nine_listing}

-- slices of the fixed lengths, and 64 factor rows
lent_for : ℕ → Lent
lent_for n =
    record {
      parents = replicate n 0;
      order = replicate n 0;
      pops = replicate n 0;
      factor_starts = replicate (n + 1) 0;
      factor_rows = replicate 64 0;
      work = replicate (work_length_for n) 0;
    }

pub data Piece : Type 0 where
  -- a number has these bytes
  number : ℕ → List ℕ → Piece
  -- an analysis answers this
  analysis : Job → Answer → Piece
  -- an analysis gives this order
  order : Job → List ℕ → Piece
  -- an analysis gives this R(j) for a column whose list begins at this place of the factor rows
  fill : Job → ℕ → ℕ → List ℕ → Piece
  -- a written plan has these bytes
  plan : Job → List ℕ → Piece
  -- the check of these bytes answers this
  check : Job → List ℕ → Answer → Piece
  -- for this standard input the program prints this
  prints : List ℕ → List ℕ → Piece

same_answer : Answer → Answer → Bool
same_answer a b = eqb a.number b.number && eqb a.place b.place && eqb a.count b.count

pub holds : Piece → Bool
unfolding lent_for same_answer flat_map up_to head0 member same every keep sum largest merge insert sort least flat starts_counted_from then_zeros
    groups_of bytes_of encode over last_group read_from number_read_from start column_of gather lists R parent t children is_under subtree_of
    top_update front_room room_at entries_after rooms peak_of column_at_step sibling_key_of alone arranged steps_of order_of order_peak gaps_of
    list_numbers lists_numbers lists_of key_numbers key_of plan_for plan_of step_numbers plan_numbers bytes_of_plan then onto within_field field
    step_read_from steps_read_from rows_read_from list_read_from lists_read_from at_end plan_read_from first refused_if refused_at fault_test
    outcome falls_at_place fault_of_row fault_of_rows column_fault job_refusals all_zero some_short early_refusals holding_plan analysis_early
    analysis_late analysis_done analysed plan_early plan_late plan_done plan_zero plan_written differs_at plan_read read_test repeated_at scattered
    true_peak_of judge_refusals plan_test plan_refusals check_early check_late check_done checked rooms_of is_decimal_digit starting_with cut
    after_lines on_word words_of is_decimal_number all_decimal value_of numbers_of numbers_at head_of rows_of_line is_row_line head_of_text
    text_lists text_job line_fault text_refusals digits_of decimal_of printed refusal_line step_lines listing_of buffers job_printed program_prints
holds (number x bytes) = same (bytes_of x) bytes
holds (analysis job a) = same_answer (analysed job (lent_for job.n)).answered a
holds (order job columns) = same (analysed job (lent_for job.n)).lent.order columns
holds (fill job j at rows) =
    same (R (pattern job) j) rows && same (take (length rows) (drop at (analysed job (lent_for job.n)).lent.factor_rows)) rows
holds (plan job bytes) =
    let written = plan_written job (record { analysis = lent_for job.n; bytes = replicate (length bytes + 3) 7 }) in
    same_answer written.answered (answer 0 0 (length bytes)) && same written.lent.bytes (bytes ++ (0 ∷ 0 ∷ 0 ∷ []))
holds (prints text out) = same (program_prints (record { text = text; more = false })) out
holds (check job bytes a) = same_answer (checked job bytes (lent_for job.n)).answered a

pub all : List Piece → Bool
all [] = true
all (p ∷ ps) = holds p && all ps

pub pieces : List Piece
unfolding none pair pair_bytes loose dense filling crossed star nine nine_text nine_listing
pieces =
    -- n 0, limit 0
    plan none (0x01 ∷ 0x00 ∷ 0x00 ∷ 0x00 ∷ 0x00 ∷ [])
    ∷ check none (0x01 ∷ 0x00 ∷ 0x00 ∷ 0x00 ∷ 0x00 ∷ []) (answer 0 0 0)
    -- n 2, column 1 {2}, limit 10
    ∷ plan (pair 10) (pair_bytes 0x0A 1 0 2 1 3 [])
    ∷ check (pair 10) (pair_bytes 0x0A 1 0 2 1 3 []) (answer 0 0 3)
    -- that plan, for limit 11 and changed
    ∷ check (pair 11) (pair_bytes 0x0A 1 0 2 1 3 []) (answer 11 4 0)
    ∷ check (pair 10) (pair_bytes 0x0A 1 0 1 1 3 []) (answer 16 2 0)
    ∷ check (pair 10) (pair_bytes 0x0A 2 1 1 0 3 []) (answer 18 1 0)
    ∷ check (pair 10) (pair_bytes 0x0A 1 0 2 0 3 []) (answer 19 2 0)
    ∷ check (pair 10) (pair_bytes 0x0A 1 0 2 1 4 []) (answer 20 0 3)
    ∷ check (pair 10) (pair_bytes 0x0A 1 0 2 1 3 (0x00 ∷ [])) (answer 15 16 0)
    -- limits 2 and 3, in the analysis and in the check
    ∷ analysis (pair 2) (answer 9 0 3)
    ∷ analysis (pair 3) (answer 0 0 3)
    ∷ check (pair 2) (pair_bytes 0x02 1 0 2 1 3 []) (answer 9 0 3)
    ∷ check (pair 3) (pair_bytes 0x03 1 0 2 1 3 []) (answer 0 0 3)
    -- n 3: no rows, and dense
    ∷ analysis loose (answer 0 0 1)
    ∷ analysis dense (answer 0 0 6)
    -- n 4: fill (4, 3); an order that is not ascending
    ∷ analysis filling (answer 0 0 6)
    ∷ fill filling 3 3 (4 ∷ [])
    ∷ analysis crossed (answer 0 0 4)
    ∷ order crossed (2 ∷ 1 ∷ 3 ∷ 4 ∷ [])
    -- the star, and the nine columns with marks 0 and 1
    ∷ analysis star (answer 0 0 5)
    ∷ analysis (nine 0) (answer 0 0 15)
    ∷ order (nine 0) (1 ∷ 2 ∷ 3 ∷ 4 ∷ 5 ∷ 6 ∷ 7 ∷ 8 ∷ 9 ∷ [])
    ∷ analysis (nine 1) (answer 0 0 13)
    ∷ order (nine 1) (3 ∷ 4 ∷ 5 ∷ 6 ∷ 7 ∷ 1 ∷ 2 ∷ 8 ∷ 9 ∷ [])
    ∷ prints nine_text nine_listing
    -- numbers
    ∷ number 0 (0x00 ∷ [])
    ∷ number 300 (0xAC ∷ 0x02 ∷ [])
    ∷ number 1099511627776 (0x80 ∷ 0x80 ∷ 0x80 ∷ 0x80 ∷ 0x80 ∷ 0x20 ∷ [])
    ∷ []

-- every piece holds
pub all_hold : all pieces ≡ true
unfolding all holds pieces
all_hold = refl
