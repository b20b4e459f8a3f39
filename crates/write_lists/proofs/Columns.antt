-- Proves how the lists are written column by column: the rows between two starts of a sound job can be written, their numbers come next, and those of
-- the later columns follow.
-- Assumes nothing.
use Prim.Native.Nat.{ℕ, suc, ◌+◌, ◌*◌, ◌^◌, ◌<◌, ◌≤◌}
use mathlib.Core.Path.{◌≡◌}
use mathlib.Core.List.{List, [], ◌∷◌, ◌++◌}
use native.Mathlib.Omega.{arith}
use native.Mathlib.Numerals.{add-one}
use lib.ListN.{length, get_or, drop, length-append, drop_of_length-le}
use lib.Seq.{slice, drop-cons}
use Rattle.papers.specs.Plan.{ListsFit}
use Rattle.papers.specs.Bounds.{max_columns}
use Rattle.papers.specs.Job.{column_of}
use Rattle.papers.specs.Numbers.{encode}
use Rattle.papers.specs.Key.{list_numbers, lists_numbers, lists_of}
use Rattle.job_laws.specs.Passed.{PassedLists}
use Rattle.list_laws.specs.Wrote.{Wrote}
use Rattle.list_laws.proofs.Ascending.{asc-length}
use Rattle.list_laws.proofs.Writing.{Writes, writes-none}
use Rattle.bytes_laws.proofs.Gaps.{length-gaps}
use Rattle.bytes_laws.proofs.Writing.{encode-none, writes-numbers, writes-near}
use Rattle.job_laws.proofs.Starts.{start-at, start-within, column-at}
use Rattle.job_laws.proofs.Passed.{lists-below}
use Rattle.job_laws.proofs.Laid.{length-lists, lists_at, column-length}
use Rattle.job_laws.proofs.Keys.{lists-fit}
use Rattle.write_gaps.specs.ListBetween.{ListBetween}

-- the numbers of the columns behind the first k
abbrev pub numbers_from : ℕ → List ℕ → List ℕ → ℕ → List ℕ
numbers_from n starts rows k = lists_numbers (suc k) (drop k (lists_of n (column_of starts rows)))

module _ {n : ℕ} {starts rows : List ℕ} (few : n ≤ max_columns) (p : PassedLists n starts rows) where
  -- ---- one column

  module _ {k : ℕ} (h : k < n) where
    column-is : column_of starts rows (suc k) ≡ slice (get_or starts k 0) (get_or starts (k + 1) 0) rows
    column-is = rw add-one (column-at starts rows k)

    pub column-list : ListBetween (k + 1) rows (get_or starts k 0) (get_or starts (k + 1) 0)
    column-list =
        let c = asc-length n (suc k) (column_of starts rows (suc k)) (p.ascending (suc k) (omega arith) h) (p.within (suc k) (omega arith) h) in
        let l = column-length p.whole k h in
        let a = start-at starts k in
        let b = start-at starts (suc k) in
        rw add-one (record {
          rises = omega (arith, p.whole.rising (suc k) (omega arith) h);
          inside = omega (arith, start-within p.whole (suc (suc k)) (omega arith) (omega arith));
          ascending = rw (column-at starts rows k) at (p.ascending (suc k) (omega arith) h);
          few = omega arith;
          within = λ row m. let q = p.within (suc k) (omega arith) h row (rw (column-at starts rows k) m) in omega arith;
        })

    -- the column's numbers come next
    pub numbers-next : numbers_from n starts rows k ≡ list_numbers (k + 1) (slice (get_or starts k 0) (get_or starts (k + 1) 0) rows) ++ numbers_from n
        starts rows (k + 1)
    unfolding lists_numbers
    numbers-next =
        let l = length-lists (column_of starts rows) n in
        rw (← column-is, add-one, drop-cons (lists_of n (column_of starts rows)) k [] (omega arith), lists_at (column_of starts rows) n k h)

  pub numbers-none : {k : ℕ} → n ≤ k → numbers_from n starts rows k ≡ []
  unfolding lists_numbers
  numbers-none {k} h =
      let q : length (lists_of n (column_of starts rows)) ≤ k = omega (arith, length-lists (column_of starts rows) n) in
      rw (drop_of_length-le (lists_of n (column_of starts rows)) q)

  -- ---- how many there are

  numbers-few : (j : ℕ) (ls : List (List ℕ)) → ListsFit n j ls → length (lists_numbers j ls) ≤ (max_columns + 1) * length ls
  unfolding lists_numbers list_numbers
  numbers-few j [] f = omega arith
  numbers-few j (l ∷ ls) f =
      omega (
        arith,
        numbers-few (suc j) ls f.1,
        asc-length n j l f.0.0 f.0.1,
        length-gaps j l,
        length-append (list_numbers j l) (lists_numbers (suc j) ls),
      )

  pub lists-few : length (lists_numbers 1 (lists_of n (column_of starts rows))) ≤ (max_columns + 1) * max_columns
  lists-few =
      let below = lists-below n starts rows p in
      let fit = lists-fit n (column_of starts rows) (λ j. (below.ascending j, λ i m. below.within i j m)) n in
      omega (arith, numbers-few 1 (lists_of n (column_of starts rows)) fit, length-lists (column_of starts rows) n)

-- ---- written

-- the numbers of the first `done` columns are written
pub record WritesColumns (n : ℕ) (starts rows d₀ : List ℕ) (first : ℕ) (d : List ℕ) (next done : ℕ) : Type 0 where
  pub few : n ≤ max_columns
  pub lists : PassedLists n starts rows
  pub high : done ≤ n
  pub written : Writes (encode (lists_numbers 1 (lists_of n (column_of starts rows)))) d₀ first (encode (numbers_from n starts rows done)) d next
  pub near : first < 2 ^ 60

module _ {n : ℕ} {starts rows d₀ : List ℕ} {first : ℕ} {d : List ℕ} {next done : ℕ} (w : WritesColumns n starts rows d₀ first d next done) where
  -- the place of the next list is small too
  pub list-near : next < 2 ^ 61
  list-near =
      let all = lists_numbers 1 (lists_of n (column_of starts rows)) in
      omega (arith, w.near, writes-near all w.written, lists-few w.few w.lists)

  module _ (h : done < n) where
    pub lists-turn : {m : ℕ} {d' : List ℕ}
        → Wrote (encode (list_numbers (done + 1) (slice (get_or starts done 0) (get_or starts (done + 1) 0) rows))) d d' next m
        → WritesColumns n starts rows d₀ first d' m (done + 1)
    lists-turn p =
        record {
          few = w.few;
          lists = w.lists;
          high = omega arith;
          written = writes-numbers (list_numbers (done + 1) (slice (get_or starts done 0) (get_or starts (done + 1) 0) rows)) _ w.written
              (numbers-next w.few w.lists h) p;
          near = w.near;
        }

  pub lists-stop : n ≤ done → Wrote (encode (lists_numbers 1 (lists_of n (column_of starts rows)))) d₀ d first next
  lists-stop h = writes-none w.written (encode-none (numbers-none w.few w.lists h))
