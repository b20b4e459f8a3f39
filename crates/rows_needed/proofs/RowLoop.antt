-- Proves that all columns are filed under their first rows, and the steps of the loop over the rows.
-- Assumes nothing.
use Prim.Native.Nat.{ℕ, suc, ◌+◌, ◌-◌, ◌<◌, ◌≤◌}
use mathlib.Core.Path.{◌≡◌, refl, ◌∙◌}
use mathlib.Core.Logic.{inl, inr, ⊎_elim, ◌≢◌}
use mathlib.Core.List.Memᴰ
use mathlib.Core.List.{List, []}
use native.Mathlib.Omega.{arith}
use native.Mathlib.Numerals.{add-one}
use lib.ListN.{length, get_or, set, length-set, length-replicate}
use lib.Seq.{get_or-set_other}
use Rattle.papers.specs.Lists.{flat, zeros}
use Rattle.papers.specs.Job.{column_of}
use Rattle.papers.specs.Fill.{R}
use Rattle.papers.specs.Key.{lists_of}
use Rattle.list_laws.proofs.Tests.{same_or}
use Rattle.list_laws.proofs.Stores.{zero-at}
use Rattle.column_laws.specs.Tested.{Tested}
use Rattle.column_laws.proofs.Columns.{tested-below, starts-long, starts-rise, row-range}
use Rattle.rows_needed.specs.Buckets.{Points, ColumnUpTo, Bucket, Buckets, filed}
use Rattle.rows_needed.specs.Walk.{Filing, Between, Walk, Fileable, FirstFiled, RowsCountable}
use Rattle.rows_needed.proofs.RowEnds.{opened, row_done, first-row, last_row}
use Rattle.rows_needed.proofs.Buckets.{points-ext, buckets-ext, none_left, next_row, leaf-points}
use Rattle.rows_needed.proofs.Filing.{New}
use Rattle.rows_needed.proofs.Stores.{file}

-- ---- filing every column

-- the first m columns are filed
pub record FiledTo (n m : ℕ) (starts rows w₀ w : List ℕ) : Type 0 where
  pub tested : Tested n starts rows
  pub begun : FirstFiled n m starts rows w
  pub most : m ≤ n
  pub long : length w ≡ length w₀

-- no column is filed yet
pub file-none : {n : ℕ} {starts rows w₀ w : List ℕ} → Fileable n starts rows w₀ → w ≡ zeros w₀ → FiledTo n 0 starts rows w w
file-none {n} {starts} {rows} {w₀} f e =
    record {
      tested = f.tested;
      begun = rw e
          (record {
            buckets = record {
              range = λ d m. absurd (omega arith);
              place = λ d m. absurd (omega arith);
              bucket = λ r u v. empty r (zero-at w₀ (n + r));
              left = empty 0 refl;
              long = rw length-replicate f.work-long;
            };
            marks = λ x h. zero-at w₀ x;
          });
      most = omega arith;
      long = refl;
    }
  where
    empty : (r : ℕ) {c : ℕ} → c ≡ 0 → Bucket n r starts rows (zeros w₀) (ColumnUpTo 0) c
    empty r z = record { list = []; chain = z; from = λ d m. absurd (Memᴰ.not-nil m); into = λ d m h. absurd (omega arith); once = tt }

module _ {n m : ℕ} {starts rows w₀ w : List ℕ} (f : FiledTo n m starts rows w₀ w) (l : m < n) where
  -- the first row of column m + 1, if it has one
  first-row-of : get_or starts m 0 < get_or starts (suc m) 0
      → (0 < get_or rows (get_or starts m 0) 0) × ((get_or rows (get_or starts m 0) 0 ≤ n) × (get_or starts m 0 < length rows))
  first-row-of u =
      let e : suc m - 1 ≡ m = omega arith in
      let g = row-range f.tested (suc m) (omega arith) (get_or starts m 0) (rw e (omega arith)) u in
      (omega (arith, g.1.0), (g.1.1.0, g.1.1.1))

  new : New n 0 (suc m) (get_or starts m 0) starts rows (ColumnUpTo m) (ColumnUpTo (suc m))
  new =
      let e : suc m - 1 ≡ m = omega arith in
      record {
        column = (omega arith, omega arith);
        new = λ h. omega arith;
        out = λ d h. ⊎_elim (λ (u : d ≡ suc m). inr u) (λ (u : d ≢ suc m). inl (h.0, omega arith)) (same_or d (suc m));
        inn = λ d h. (h.0, omega arith);
        has = (omega arith, omega arith);
        low = rw e (omega arith);
        high = rw (← add-one) (starts-rise f.tested m l);
        behind = λ x u v. absurd (let q : get_or starts m 0 ≤ x = rw e at u in omega arith);
        ahead = λ u. let g = first-row-of u in (g.0, g.1.0);
      }

  pub filing-first : Filing n (m + 1) (get_or starts m 0) starts rows w
  filing-first =
      rw add-one
      (record {
        column = (omega arith, omega arith);
        started = omega (arith, starts-long f.tested);
        place = λ u. (first-row-of u).1.1;
        row = λ u. (first-row-of u).1.0;
        long = f.begun.buckets.long;
      })

  pub file-next : {w' : List ℕ} → w' ≡ filed n (m + 1) (get_or starts m 0) starts rows w → length w' ≡ length w → FiledTo n (m + 1) starts rows w₀ w'
  file-next e k =
      let s = file f.begun.buckets new in
      record {
        tested = f.tested;
        begun = rw (e, add-one) (record { buckets = s.buckets; marks = λ x h. s.marks x h ∙ f.begun.marks x h });
        most = omega arith;
        long = k ∙ f.long;
      }

pub file-all : {n m : ℕ} {starts rows w₀ w : List ℕ} → FiledTo n m starts rows w₀ w → n ≤ m → FirstFiled n n starts rows w
file-all {n} {m} f l = let e : m ≡ n = omega (arith, f.most) in rw e at f.begun

-- ---- the rows one by one

-- before row m + 1
pub record Rows (n m : ℕ) (starts rows p₀ w₀ p w : List ℕ) (t : ℕ) : Type 0 where
  pub tested : Tested n starts rows
  pub between : Between n (suc m) (column_of starts rows) p w t
  pub buckets : Buckets n m starts rows w (ColumnUpTo n) 0
  pub most : m ≤ n
  pub room-p : n ≤ length p
  pub long-p : length p ≡ length p₀
  pub long-w : length w ≡ length w₀

pub rows-first : {n : ℕ} {starts rows p₀ w₀ p w : List ℕ} → RowsCountable n starts rows p₀ w₀ → p ≡ zeros p₀ → FirstFiled n n starts rows w
    → Rows n 0 starts rows p w p w 0
rows-first {p₀ = p₀} c e b =
    record {
      tested = c.tested;
      between = first-row (tested-below c.tested) (λ x. rw e (zero-at p₀ x)) b.marks;
      buckets = b.buckets;
      most = omega arith;
      room-p = rw (e, length-replicate) c.parents-long;
      long-p = refl;
      long-w = refl;
    }

-- row m + 1 begins
pub rows-open : {n m t : ℕ} {starts rows p₀ w₀ p w : List ℕ} → Rows n m starts rows p₀ w₀ p w t → m < n
    → Walk n (m + 1) starts rows p (set w (m + 1) (m + 1)) t (get_or (set w (m + 1) (m + 1)) (n + (m + 1)) 0)
rows-open {n} {m} {t} {starts} {rows} {p} {w = w} r l =
    rw add-one
    (record {
      tested = r.tested;
      low = omega arith;
      high = omega arith;
      row = opened r.between (omega arith) (omega arith) (omega (arith, r.buckets.long));
      buckets = rw (up (n + suc m) (omega arith)) (buckets-ext (set w (suc m) (suc m)) up (length-set w (suc m) (suc m))
          (next_row r.buckets (omega arith)));
      leaf = λ d u h. inr (points-ext n starts rows w (set w (suc m) (suc m)) d (suc m) (up (n + n + n + d) (omega arith))
          (leaf-points r.buckets r.tested d u h));
      long-parents = r.room-p;
    })
  where
    up : (x : ℕ) → n < x → get_or (set w (suc m) (suc m)) x 0 ≡ get_or w x 0
    up x h = get_or-set_other w (suc m) x (suc m) 0 (λ q. omega arith)

-- row m + 1 is done
pub rows-close : {n m t t₁ : ℕ} {starts rows p₀ w₀ p w p₁ w₁ : List ℕ} → Rows n m starts rows p₀ w₀ p w t → Walk n (m + 1) starts rows p₁ w₁ t₁ 0
    → length p₁ ≡ length p → length w₁ ≡ length (set w (m + 1) (m + 1)) → Rows n (m + 1) starts rows p₀ w₀ p₁ w₁ t₁
rows-close {n} {m} {starts = starts} {rows} {w = w} {w₁ = w₁} r k lp lw =
    record {
      tested = r.tested;
      between = row_done (tested-below r.tested) k.row k.low k.high
          (λ c a b h.
          ⊎_elim
          (λ (y : get_or w₁ c 0 ≡ m + 1). y)
          (λ (y : Points n starts rows w₁ c (m + 1)). absurd (none_left k.buckets c (a, b) y))
          (k.leaf c (a, b) h));
      buckets = k.buckets;
      most = k.high;
      room-p = k.long-parents;
      long-p = lp ∙ r.long-p;
      long-w = lw ∙ length-set w (m + 1) (m + 1) ∙ r.long-w;
    }

pub rows_last : {n m t : ℕ} {starts rows p₀ w₀ p w : List ℕ} → Rows n m starts rows p₀ w₀ p w t → n ≤ m
    → t ≡ length (flat (lists_of n (R (column_of starts rows))))
rows_last {n} {m} {t} {starts} {rows} {p = p} {w} r h =
    let e : m ≡ n = omega (arith, r.most) in
    let k : Between n (suc n) (column_of starts rows) p w t = rw e at r.between in
    last_row (tested-below r.tested) k
