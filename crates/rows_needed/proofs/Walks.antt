-- Proves one turn of the walk over the columns at row i: it climbs from the first of them and files it under its next row, and the others are left to
-- do. The rows ahead of all columns grow fewer.
-- Assumes nothing.
use Prim.Native.Nat.{ℕ, ◌+◌, ◌-◌, ◌<◌, ◌≤◌}
use mathlib.Core.Path.{◌≡◌, refl, sym, ap, ◌∙◌}
use mathlib.Core.Logic.{◌⊎◌, inl, inr, ⊎_elim, ◌≢◌}
use mathlib.Core.List.{List}
use native.Mathlib.Omega.{arith}
use lib.ListN.{length, get_or}
use Rattle.papers.specs.Lists.{◌∈◌}
use Rattle.papers.specs.Job.{column_of, Below}
use Rattle.list_laws.proofs.Tests.{same_or}
use Rattle.fill_laws.proofs.Fill.{R-pattern}
use Rattle.column_laws.proofs.Columns.{tested-below, starts-long, starts_fit, row-range, rows-rise}
use Rattle.needed_climb.specs.Sums.{sum_to}
use Rattle.needed_climb.specs.Row.{ClimbStart, Climbing, Climbed}
use Rattle.needed_climb.proofs.Sums.{sum_bump}
use Rattle.needed_climb.proofs.Marking.{row-ext}
use Rattle.rows_needed.specs.Buckets.{cursor, Points, ColumnUpTo, filed}
use Rattle.rows_needed.specs.Walk.{Filing, Walk}
use Rattle.rows_needed.proofs.Buckets.{points-ext, buckets-ext, But, Taken, take_out}
use Rattle.rows_needed.proofs.Filing.{New}
use Rattle.rows_needed.proofs.Stores.{Filed, file}

-- the walk's loop: the columns from c on are left to do, and the slices keep their lengths
pub record Walking (n i : ℕ) (starts rows p₀ w₀ p w : List ℕ) (t c : ℕ) : Type 0 where
  pub walk : Walk n i starts rows p w t c
  pub long-p : length p ≡ length p₀
  pub long-w : length w ≡ length w₀

-- counts the rows that are still ahead, of all columns
abbrev pub ahead : ℕ → List ℕ → List ℕ → ℕ
ahead n starts w = sum_to n (λ d. get_or starts d 0 - cursor n w d)

module _ {n i t c : ℕ} {starts rows p w : List ℕ} (r : Walk n i starts rows p w t c) (h : c ≢ 0) where
  good : Below n (column_of starts rows)
  good = tested-below r.tested

  taken : Taken n i starts rows w c
  taken = take_out c r.buckets h

  pub column : ColumnUpTo n c
  column = taken.column

  -- ---- the climb

  start : ClimbStart n i c (column_of starts rows) p w t
  start =
      let o = taken in
      let leaf = (row-range r.tested c o.column.1 (cursor n w c) o.place.from_start o.points.0).0 in
      record {
        good = good;
        row = r.row;
        leaf = R-pattern good c i (rw o.points.1 at leaf);
        first = o.column.0;
        few = r.tested.few;
        long-parents = r.long-parents;
        long-work = omega (arith, r.buckets.long);
      }

  pub climbing : Climbing i c p w t
  climbing = record { n = n; pattern = column_of starts rows; start = start }

  -- ---- after the climb, the filing

  module _ {p₁ w₁ : List ℕ} {t₁ : ℕ} (k : Climbed i c p w t p₁ w₁ t₁) (lp : length p₁ ≡ length p) (lw : length w₁ ≡ length w) where
    same : (x : ℕ) → n < x → get_or w₁ x 0 ≡ get_or w x 0
    same x l = k.others x (omega (arith, r.high))

    out : Taken n i starts rows w₁ c
    out = take_out c (buckets-ext w₁ same lw r.buckets) h

    pub step_fits : cursor n w₁ c + 1 ≤ length rows
    step_fits = omega (arith, starts_fit r.tested c out.column.1, out.points.0)

    -- the row behind row i, if there is one
    next_row : cursor n w₁ c + 1 < get_or starts c 0
        → (i < get_or rows (cursor n w₁ c + 1) 0) × ((get_or rows (cursor n w₁ c + 1) 0 ≤ n) × (cursor n w₁ c + 1 < length rows))
    next_row b =
        let f = out.place.from_start in
        let g = rows-rise r.tested c out.column.1 (cursor n w₁ c) (cursor n w₁ c + 1) f (omega arith) b in
        let e = row-range r.tested c out.column.1 (cursor n w₁ c + 1) (omega arith) b in
        (omega (arith, out.points.1), (e.1.1.0, e.1.1.1))

    pub filing : Filing n c (cursor n w₁ c + 1) starts rows w₁
    filing =
        record {
          column = out.column;
          started = omega (arith, starts-long r.tested, out.column.1);
          place = λ b. (next_row b).1.1;
          row = λ b. (next_row b).1.0;
          long = out.rest.long;
        }

    new : New n i c (cursor n w₁ c + 1) starts rows (But n c) (ColumnUpTo n)
    new =
        let o = out in
        record {
          column = o.column;
          new = λ m. m.1 refl;
          out = λ d m. ⊎_elim (λ (e : d ≡ c). inr e) (λ (e : d ≢ c). inl (m, e)) (same_or d c);
          inn = λ d m. m.0;
          has = o.column;
          low = omega (arith, o.place.from_start);
          high = omega (arith, o.points.0);
          behind = λ x a b. ⊎_elim
              (λ (e : x ≡ cursor n w₁ c). rw e (omega (arith, o.points.1)))
              (λ (e : x ≢ cursor n w₁ c). o.place.behind x a (omega arith))
              (same_or x (cursor n w₁ c));
          ahead = λ b. let e = next_row b in (e.0, e.1.0);
        }

    abbrev after : List ℕ
    after = filed n c (cursor n w₁ c + 1) starts rows w₁

    done : Filed out.rest new
    done = file out.rest new

    cursors : (d : ℕ) → ColumnUpTo n d → d ≢ c → cursor n after d ≡ cursor n w d
    cursors d u z = (done.moved.stay d u z).cursors ∙ same (n + n + n + d) (omega arith)

    module _ {w₂ : List ℕ} (e : w₂ ≡ after) where
      -- the others are left to do
      pub walked : Walk n i starts rows p₁ w₂ t₁ (get_or w (n + n + c) 0)
      walked =
          rw e
          (record {
            tested = r.tested;
            low = r.low;
            high = r.high;
            row = row-ext after good r.high done.marks (k.row n (column_of starts rows) start);
            buckets = rw (same (n + n + c) (omega (arith, column))) at done.buckets;
            leaf = leaf;
            long-parents = rw lp r.long-parents;
          })
        where
          mark : (d : ℕ) → ColumnUpTo n d → get_or w₁ d 0 ≡ i → (get_or after d 0 ≡ i) ⊎ Points n starts rows after d i
          mark d u m = inl (done.marks d u.1 ∙ m)

          leaf : (d : ℕ) → ColumnUpTo n d → i ∈ column_of starts rows d → (get_or after d 0 ≡ i) ⊎ Points n starts rows after d i
          leaf d u m =
              ⊎_elim
              (λ (y : get_or w d 0 ≡ i). mark d u (k.kept d y))
              (λ (y : Points n starts rows w d i).
              ⊎_elim
              (λ (z : d ≡ c). mark d u (rw z k.met))
              (λ (z : d ≢ c). inr (points-ext n starts rows w after d i (cursors d u z) y))
              (same_or d c))
              (r.leaf d u m)

      -- one row less is ahead
      pub falls : ahead n starts w₂ < ahead n starts w
      falls =
          let one = sum_bump n c (λ d. get_or starts d 0 - cursor n after d) (λ d. get_or starts d 0 - cursor n w d) out.column.0 out.column.1
          (rw done.moved.placed (omega (arith, out.points.0, same (n + n + n + c) (omega arith))))
          (λ d a v m. ap (λ k. get_or starts d 0 - k) (sym (cursors d (a, v) m))) in
          rw e (omega arith)
