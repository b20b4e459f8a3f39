-- Proves how rows are read one by one to the end of the line: those read, then the rest of the line, are the line's numbers. Each takes at least a
-- byte, so their count is no greater than the place.
-- Assumes nothing.
use Rattle.std.proofs.Common.{ℕ, ◌+◌, ◌<◌, ◌≤◌, ◌≡◌, refl, sym, ap, ◌∙◌, ◌≢◌, List, [], ◌∷◌, ◌++◌, map, arith, length, set, drop, length-append}
use Rattle.std.proofs.Common.{drop_of_length-le, ne_eqb}
use mathlib.Core.List.{map-append}
use lib.ListN.{length-map}
use lib.Seq.{sets, length-sets}
use Rattle.papers.specs.Text.{newline, space, cut, after_lines, numbers_at, is_row_line}
use Rattle.list_laws.proofs.Stores.{sets_more}
use Rattle.text_laws.specs.Grammar.{behind}
use Rattle.text_laws.proofs.ByWords.{behind-none, behind_more}
use Rattle.text_words.specs.Words.{DecimalAt, NoNumbers}
use Rattle.text_words.proofs.Told.{more_numbers, more-after, line-behind, last-numbers, line-ends}
use Rattle.text_lines.specs.Narrowed.{narrowed}
use Rattle.text_lines.specs.Lines.{RowsAt, RowLine, NoRowLine}

-- `count` numbers are read so far, up to k, and kept from place t on
pub record RowsRead (text : List ℕ) (at t : ℕ) (rows₀ rows : List ℕ) (k count : ℕ) : Type 0 where
  pub list : List ℕ
  pub whole : behind list (numbers_at (drop k text) 1) ≡ numbers_at (drop at text) 1
  pub after : after_lines 1 (drop k text) ≡ after_lines 1 (drop at text)
  pub counted : count ≡ length list
  pub paced : at + count ≤ k
  pub inside : k ≤ length text
  pub kept : rows ≡ sets rows₀ t (map narrowed list)

-- no number is read yet
pub rows_start : (text : List ℕ) (at t : ℕ) (rows : List ℕ) → at ≤ length text → RowsRead text at t rows rows at 0
rows_start text at t rows h =
    record { list = []; whole = behind-none _; after = refl; counted = refl; paced = omega arith; inside = h; kept = refl }

behind-some : (xs list : List ℕ) → 0 < length list → behind xs list ≡ xs ++ list
unfolding behind
behind-some xs [] h = absurd (omega arith)
behind-some xs (y ∷ ys) h = refl

no_text : numbers_at [] 1 ≡ []
unfolding numbers_at after_lines cut
no_text = refl

module _ {text : List ℕ} {at t : ℕ} {rows₀ rows : List ℕ} {k count : ℕ} (x : RowsRead text at t rows₀ rows k count) where
  -- the slice keeps its length
  pub rows_long : length rows ≡ length rows₀
  rows_long = ap length x.kept ∙ length-sets rows₀ t (map narrowed x.list)

  one_kept : (v : ℕ) {rows' : List ℕ} → rows' ≡ set rows (t + count) (narrowed v) → rows' ≡ sets rows₀ t (map narrowed (x.list ++ (v ∷ [])))
  one_kept v e =
      let c = x.counted in
      rw (map-append narrowed x.list (v ∷ [])) (sets_more (map narrowed x.list) rows₀ t (narrowed v) (t + count) x.kept e
      (omega (arith, length-map x.list narrowed)))

  one-counted : (v : ℕ) → length (x.list ++ (v ∷ [])) ≡ count + 1
  one-counted v = let c = x.counted in omega (arith, length-append x.list (v ∷ []))

  -- reads one more, before a space
  pub rows-turn : {v next : ℕ} {rows' : List ℕ} → DecimalAt text k space v next → rows' ≡ set rows (t + count) (narrowed v)
      → RowsRead text at t rows₀ rows' next (count + 1)
  rows-turn {v} {next} n e =
      let p = x.paced in
      let o = n.on in
      record {
        list = x.list ++ (v ∷ []);
        whole = sym (behind_more x.list (v ∷ []) (numbers_at (drop next text) 1)) ∙ ap (behind x.list) (sym (more_numbers n)) ∙ x.whole;
        after = more-after n ∙ x.after;
        counted = sym (one-counted v);
        paced = omega arith;
        inside = n.inside;
        kept = one_kept v e;
      }

  -- reads the last one, before a newline
  pub rows_last : {v next : ℕ} {rows' : List ℕ} → DecimalAt text k newline v next → rows' ≡ set rows (t + count) (narrowed v)
      → RowsAt text at t rows₀ rows' (count + 1) next
  unfolding behind
  rows_last {v} {next} n e =
      let p = x.paced in
      let o = n.on in
      let l = line-ends n in
      record {
        list = x.list ++ (v ∷ []);
        counted = sym (one-counted v);
        numbers = sym x.whole ∙ ap (behind x.list) (last-numbers n);
        some = omega arith;
        ends = record { rest = l.rest ∙ x.after; on = omega arith; inside = l.inside };
        paced = omega arith;
        kept = one_kept v e;
      }

  -- bad text, or no text
  pub rows-bad : NoNumbers text k → NoNumbers text at
  unfolding behind
  rows-bad b = record { none = sym x.whole ∙ ap (behind x.list) b.none }

  pub rows_out : length text ≤ k → NoNumbers text at
  rows_out h = rows-bad (record { none = rw (drop_of_length-le text h) no_text })

-- ---- a line of rows, by its count

counted-rows : {text : List ℕ} {at said next : ℕ} → DecimalAt text at space said next → {list : List ℕ} → numbers_at (drop next text) 1 ≡ list
    → 0 < length list
    → numbers_at (drop at text) 1 ≡ said ∷ list
counted-rows {said = said} n {list} f s = more_numbers n ∙ ap (behind (said ∷ [])) f ∙ behind-some (said ∷ []) list s

-- bad text
pub line-bad : {text : List ℕ} {at : ℕ} → NoNumbers text at → NoRowLine text at
unfolding is_row_line
line-bad b = record { bad = rw b.none }

-- the count is alone on the line
module _ {text : List ℕ} {at said next : ℕ} (n : DecimalAt text at newline said next) where
  pub line-alone : {t : ℕ} {rows : List ℕ} → said ≡ 0 → RowLine text at t rows rows 0 next
  line-alone z =
      let o = n.on in
      record { list = []; counted = refl; numbers = last-numbers n ∙ rw z; ends = line-ends n; paced = omega arith; kept = refl }

  pub line-lacks : said ≢ 0 → NoRowLine text at
  unfolding is_row_line
  line-lacks h = record { bad = rw (last-numbers n) (ne_eqb said 0 h) }

-- rows follow the count
module _ {text : List ℕ} {at said next : ℕ} (n : DecimalAt text at space said next) where
  pub line-no-rows : NoNumbers text next → NoRowLine text at
  unfolding behind
  line-no-rows b = line-bad (record { none = more_numbers n ∙ ap (behind (said ∷ [])) b.none })

  module _ {t : ℕ} {rows₀ rows : List ℕ} {count end : ℕ} (x : RowsAt text next t rows₀ rows count end) where
    listed : numbers_at (drop at text) 1 ≡ said ∷ x.list
    listed = counted-rows n x.numbers (rw x.counted at x.some)

    pub line-rows : count ≡ said → RowLine text at t rows₀ rows count end
    line-rows h =
        let o = n.on in
        let p = x.paced in
        record {
          list = x.list;
          counted = x.counted;
          numbers = listed ∙ ap (λ (c : ℕ). c ∷ x.list) (sym h ∙ x.counted);
          ends = line-behind n x.ends;
          paced = omega arith;
          kept = x.kept;
        }

    pub line-differs : count ≢ said → NoRowLine text at
    unfolding is_row_line
    line-differs h = record { bad = rw listed (ne_eqb said (length x.list) (λ z. h (x.counted ∙ sym z))) }
