-- Proves each way through the two loops over columns and rows: the columns passed have no fault, so the first at fault is the least; nor have the
-- rows passed, so the first fault of those left is the column's.
-- Assumes nothing.
use Rattle.std.proofs.Common.{ℕ, suc, ◌+◌, ◌-◌, ◌<◌, ◌≤◌, ◌≡◌, List, length, get_or, take, drop, refl, sym, subst, ◌∙◌, arith, add-one, drop-cons}
use lib.ListN.{drop_of_length-le}
use lib.Seq.{slice}
use Rattle.std.proofs.lemmas.List.{drop-take}
use Rattle.papers.specs.Lists.{least}
use Rattle.papers.specs.Refusals.{answer, passed, refused}
use Rattle.papers.specs.Job.{fault_of_row, fault_of_rows, column_fault}
use Rattle.job_laws.specs.Passed.{Starts, rows_test}
use Rattle.job_laws.proofs.Faults.{faulty, faults-next, faults-pass, faults-refuse}
use Rattle.job_laws.proofs.Starts.{start-at, column-at, starts-iff, start-within}
use Rattle.job_laws.proofs.Rows.{rows-fault, rows_next}
use Rattle.job_rows.specs.Started.{Started}

-- ---- the rows of column j

-- the first i rows are read, `before` is the last of them, and no fault is found
pub record RowsRead (n j : ℕ) (rows : List ℕ) (before i : ℕ) : Type 0 where
  pub left : fault_of_rows n j before (drop i rows) ≡ fault_of_rows n j j rows

pub rows-begin : (n j : ℕ) (rows : List ℕ) → RowsRead n j rows j 0
rows-begin n j rows = record { left = refl }

module _ {n j : ℕ} {rows : List ℕ} {before i : ℕ} (r : RowsRead n j rows before i) where
  -- no row is left
  pub rows-end : length rows ≤ i → 0 ≡ fault_of_rows n j j rows
  unfolding fault_of_rows
  rows-end h = rw (drop_of_length-le rows h) at r.left

  module _ {row : ℕ} (this : row ≡ get_or rows i 0) (h : i < length rows) where
    pub row-found : {f : ℕ} → 0 < f → f ≡ fault_of_row n j before row → f ≡ fault_of_rows n j j rows
    row-found z e =
        e ∙ sym (rows-fault n j before row (drop (suc i) rows) (omega arith)) ∙ (rw (drop-cons rows i 0 h, ← this) at r.left)

    pub row-next : 0 ≡ fault_of_row n j before row → RowsRead n j rows row (i + 1)
    row-next e = record {
      left = rw add-one (sym (rows_next n j before row (drop (suc i) rows) (sym e)) ∙ (rw (drop-cons rows i 0 h, ← this) at r.left));
    }

-- ---- the columns

-- the rows between the starts of the next column
abbrev next_rows : List ℕ → List ℕ → ℕ → List ℕ
next_rows starts rows done = let from = get_or starts done 0 in take (get_or starts (done + 1) 0 - from) (drop from rows)

-- the first `done` columns have no fault
pub record ColumnsRead (n : ℕ) (starts rows : List ℕ) (done : ℕ) : Type 0 where
  pub none : least (faulty (column_fault n starts rows)) done ≡ 0

module _ (n : ℕ) (starts rows : List ℕ) where
  pub columns-begin : ColumnsRead n starts rows 0
  unfolding least
  columns-begin = record { none = refl }

  -- the fault of the next column is that of the rows between its starts
  next-fault : (done : ℕ) {f : ℕ} → get_or starts done 0 ≤ get_or starts (done + 1) 0
      → f ≡ fault_of_rows n (done + 1) (done + 1) (next_rows starts rows done) → f ≡ column_fault n starts rows (suc done)
  unfolding column_fault
  next-fault done h e =
      let from = get_or starts done 0 in
      let to = get_or starts (done + 1) 0 in
      let whole : from + (to - from) ≡ to = omega arith in
      let same : next_rows starts rows done ≡ slice from to rows = sym (rw whole at (drop-take from (to - from) rows)) in
      rw column-at (rw add-one at (rw same at e))

-- the rows of the next column lie between its starts, among the rows
module _ {n : ℕ} {starts rows : List ℕ} (s : Started n starts rows) where
  whole : Starts n starts rows
  whole = (starts-iff n starts rows).0 s.starts-pass

  pub starts-long : length starts ≡ n + 1
  starts-long = whole.long

  module _ {done : ℕ} (l : done < n) where
    pub starts-rise : get_or starts done 0 ≤ get_or starts (done + 1) 0
    starts-rise = rw (add-one, ← start-at starts done, ← start-at starts (suc done)) (whole.rising (suc done) (omega arith) (omega arith))

    pub rows-within : get_or starts (done + 1) 0 ≤ length rows
    rows-within = rw (add-one, ← start-at starts (suc done)) (start-within whole (suc (suc done)) (omega arith) (omega arith))

module _ {n : ℕ} {starts rows : List ℕ} {done : ℕ} (k : ColumnsRead n starts rows done) where
  pub columns-end : n ≡ done → passed ≡ rows_test n starts rows
  columns-end e =
      let none : least (faulty (column_fault n starts rows)) n ≡ 0 = subst (λ m. least (faulty (column_fault n starts rows)) m ≡ 0) (sym e) k.none in
      sym (faults-pass (column_fault n starts rows) n (λ number j. answer number j 0) none)

  module _ {f : ℕ} (h : get_or starts done 0 ≤ get_or starts (done + 1) 0)
      (e : f ≡ fault_of_rows n (done + 1) (done + 1) (next_rows starts rows done)) where
    pub column-next : f ≡ 0 → ColumnsRead n starts rows (done + 1)
    column-next z = record {
      none = rw add-one (faults-next (column_fault n starts rows) done k.none (sym (next-fault n starts rows done h e) ∙ z));
    }

    pub column-found : done < n → 0 < f → refused (answer f (done + 1) 0) ≡ rows_test n starts rows
    column-found l z =
        let q = next-fault n starts rows done h e in
        sym (rw (add-one, q) (faults-refuse (column_fault n starts rows) n (λ number j. answer number j 0) done k.none (omega arith) (omega arith)))
