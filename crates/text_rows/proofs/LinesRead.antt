-- Proves the loop over the lines of rows: each line begins at the end of the one before, and its rows and start are stored behind theirs. No line so
-- far has a fault, so the first fault found is the first of all.
-- Assumes nothing.
use Rattle.std.proofs.Common.{ℕ, suc, ◌+◌, ◌-◌, ◌<◌, ◌≤◌, ◌≡◌, refl, sym, ap, ◌∙◌, true, List, [], ◌∷◌, ◌++◌, map, arith, add-one, length, set, drop}
use Rattle.std.proofs.Common.{length-append, length-drop, set-set, eq-eqb}
use mathlib.Core.List.{map-append}
use lib.ListN.{length-map}
use lib.Seq.{sets, length-sets}
use Rattle.papers.specs.Bounds.{program_rows}
use Rattle.papers.specs.Lists.{least, flat, starts_counted_from}
use Rattle.papers.specs.Text.{numbers_at, is_row_line, rows_of_line, after_lines, head_of_text, text_lists, line_fault}
use Rattle.list_laws.proofs.Stores.{sets-append, sets_more, starts_more, length-starts, flat-more, starts-again}
use Rattle.job_laws.proofs.Faults.{faulty, faults-next}
use Rattle.text_laws.proofs.Lines.{after_next}
use Rattle.text_laws.proofs.Numbers.{numbers-later}
use Rattle.text_words.specs.Words.{LineTo}
use Rattle.text_lines.specs.Narrowed.{narrowed}
use Rattle.text_lines.specs.Lines.{RowLine, NoRowLine}
use Rattle.refusals.specs.declared.Refusal.TheVariants.{BadText, OverProgramSizes}
use Rattle.text_rows.specs.RowsRead.{lists_of_columns, AllLines, LinesRefuse}
use Rattle.text_laws.proofs.TextLists.{lists-none, lists-more, length-lists}
use Rattle.text_laws.proofs.LineTests.{line-bad, line-over, line-fine}
use Rattle.text_rows.proofs.Tests.{lines-refuse, end-refuses, end-passes}

-- the lines of the first j columns, up to k, with `total` rows
pub record LinesRead (text : List ℕ) (n : ℕ) (starts₀ rows₀ starts rows : List ℕ) (j total k : ℕ) : Type 0 where
  pub fine : least (faulty (line_fault text)) j ≡ 0
  pub rest : drop k text ≡ after_lines (suc j) text
  pub inside : k ≤ length text
  pub done : j ≤ n
  pub counted : total ≡ length (flat (text_lists text j))
  pub few : total ≤ program_rows
  pub paced : total ≤ k
  pub started : starts ≡ sets starts₀ 0 (starts_counted_from 0 (text_lists text j))
  pub kept : rows ≡ sets rows₀ 0 (map narrowed (flat (text_lists text j)))

-- no line is read yet: the first start is stored
pub lines_start : (text : List ℕ) (n : ℕ) (starts rows : List ℕ) {at : ℕ} → LineTo text 0 at
    → LinesRead text n (set starts 0 0) rows (set starts 0 0) rows 0 0 at
unfolding least flat starts_counted_from
lines_start text n starts rows l =
    record {
      fine = refl;
      rest = l.rest;
      inside = l.inside;
      done = omega arith;
      counted = rw (lists-none text);
      few = omega arith;
      paced = omega arith;
      started = rw (lists-none text) (sym (set-set starts 0 0 0));
      kept = rw (lists-none text);
    }

-- the first start is stored again with the others
pub all-first : {text starts₀ rows₀ starts rows : List ℕ} {count : ℕ} → AllLines text (set starts₀ 0 0) rows₀ starts rows count
    → AllLines text starts₀ rows₀ starts rows count
all-first {text} {starts₀} a =
    record { counted = a.counted; passes = a.passes; started = a.started ∙ starts-again starts₀ (lists_of_columns text); kept = a.kept }

module _ {text : List ℕ} {n : ℕ} {starts₀ rows₀ starts rows : List ℕ} {j total k : ℕ} (x : LinesRead text n starts₀ rows₀ starts rows j total k) where
  pub starts-long : length starts ≡ length starts₀
  starts-long = ap length x.started ∙ length-sets starts₀ 0 (starts_counted_from 0 (text_lists text j))

  pub rows_long : length rows ≡ length rows₀
  rows_long = ap length x.kept ∙ length-sets rows₀ 0 (map narrowed (flat (text_lists text j)))

  -- the numbers of the next column's line
  numbers-here : numbers_at text (suc (suc j)) ≡ numbers_at (drop k text) 1
  numbers-here = numbers-later text (suc j) ∙ ap (λ (t : List ℕ). numbers_at t 1) (sym x.rest)

  -- the line has bad text
  pub lines-bad : n ≡ (head_of_text text).head.n → j < n → NoRowLine text k → LinesRefuse text (record { refusal = BadText; place = j + 2 })
  lines-bad e l f =
      record { refuses = lines-refuse text j 25 x.fine (omega arith) (line-bad text (suc j) (ap is_row_line numbers-here ∙ f.bad)) (omega arith) }

  -- the line is a line of rows
  module _ {count next : ℕ} {rows' : List ℕ} (y : RowLine text k total rows rows' count next) where
    is-row-line : is_row_line (numbers_at text (suc (suc j))) ≡ true
    unfolding is_row_line
    is-row-line = rw (numbers-here ∙ y.numbers) (eq-eqb (length y.list) (length y.list) refl)

    more-lists : text_lists text (suc j) ≡ text_lists text j ++ (y.list ∷ [])
    unfolding rows_of_line
    more-lists = lists-more text j ∙ ap (λ (l : List ℕ). text_lists text j ++ (rows_of_line l ∷ [])) (numbers-here ∙ y.numbers)

    more_rows : flat (text_lists text (suc j)) ≡ flat (text_lists text j) ++ y.list
    more_rows = ap flat more-lists ∙ flat-more (text_lists text j) y.list

    more-counted : total + count ≡ length (flat (text_lists text (suc j)))
    more-counted = omega (arith, x.counted, y.counted, ap length more_rows, length-append (flat (text_lists text j)) y.list)

    more-starts : starts_counted_from 0 (text_lists text (suc j)) ≡ starts_counted_from 0 (text_lists text j) ++ ((total + count) ∷ [])
    more-starts =
        let v : 0 + length (flat (text_lists text j)) + length y.list ≡ total + count = omega (arith, x.counted, y.counted) in
        rw (more-lists, starts_more 0 (text_lists text j) y.list, v)

    more-kept : rows' ≡ sets rows₀ 0 (map narrowed (flat (text_lists text (suc j))))
    more-kept =
        let earlier = map narrowed (flat (text_lists text j)) in
        let v : 0 + length earlier ≡ total = omega (arith, x.counted, length-map (flat (text_lists text j)) narrowed) in
        rw (more_rows, map-append narrowed (flat (text_lists text j)) y.list, sets-append earlier rows₀ 0 (map narrowed y.list), v, ← x.kept)
        y.kept

    -- it has too many rows
    pub lines-over : n ≡ (head_of_text text).head.n → j < n → program_rows < total + count
        → LinesRefuse text (record { refusal = OverProgramSizes; place = j + 2 })
    lines-over e l h =
        record {
          refuses = lines-refuse text j 26 x.fine (omega arith) (line-over text (suc j) is-row-line (omega (arith, more-counted)))
              (omega arith);
        }

    -- it has few enough rows
    pub lines-turn : {starts' : List ℕ} → j < n → total + count ≤ program_rows → starts' ≡ set starts (j + 1) (total + count)
        → LinesRead text n starts₀ rows₀ starts' rows' (j + 1) (total + count) next
    lines-turn l h e =
        let o = y.ends.on in
        let p = x.paced in
        let q = y.paced in
        let c = more-counted in
        rw (add-one j) (record {
          fine = faults-next (line_fault text) j x.fine (line-fine text (suc j) is-row-line (omega arith));
          rest = y.ends.rest ∙ ap (after_lines 1) x.rest ∙ sym (after_next (suc j) text);
          inside = y.ends.inside;
          done = omega arith;
          counted = c;
          few = h;
          paced = omega arith;
          started = rw more-starts (sets_more (starts_counted_from 0 (text_lists text j)) starts₀ 0 (total + count) (j + 1) x.started e
              (omega (arith, length-starts 0 (text_lists text j), length-lists text j)));
          kept = more-kept;
        })

  -- all lines are read
  module _ (e : n ≡ (head_of_text text).head.n) (l : n ≤ j) where
    all_read : j ≡ (head_of_text text).head.n
    all_read = let d = x.done in omega arith

    all-fine : least (faulty (line_fault text)) (head_of_text text).head.n ≡ 0
    all-fine = rw all_read at x.fine

    left-long : length (after_lines (suc (head_of_text text).head.n) text) ≡ length text - k
    left-long = rw (← all_read, ← x.rest) (length-drop k text)

    -- text follows them
    pub lines_left : k < length text → LinesRefuse text (record { refusal = BadText; place = n + 2 })
    lines_left h = record { refuses = rw e (end-refuses text all-fine (omega (arith, left-long))) }

    -- no text follows them
    pub lines-done : length text ≤ k → AllLines text starts₀ rows₀ starts rows total
    lines-done h =
        record {
          counted = rw all_read at x.counted;
          passes = end-passes text all-fine (omega (arith, left-long));
          started = rw all_read at x.started;
          kept = rw all_read at x.kept;
        }
