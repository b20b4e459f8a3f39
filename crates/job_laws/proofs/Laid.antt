-- Proves that lists written one behind the other are found again by their starts: each list is the part between two of them. And starts
-- that pass 4, with their rows, are the lists of the columns, one behind the other: the first k columns take the rows up to start k + 1.
-- Assumes nothing.
use Prim.Native.Nat.{ℕ, zero, suc, ◌+◌, ◌-◌, ◌<◌, ◌≤◌}
use mathlib.Core.Path.{◌≡◌, refl, sym, ap, ◌∙◌}
use mathlib.Core.List.{List, [], ◌∷◌, ◌++◌, append_assoc, append-nil}
use native.Mathlib.Omega.{arith}
use lib.ListN.{length, get_or, take, length-append, take-append-drop}
use lib.Seq.{slice, take_at, drop_at, take-suc, take-take, take_all, length-slice, length-take-le, ext_get_or}
use Rattle.papers.specs.Lists.{up_to, flat, starts_counted_from}
use Rattle.papers.specs.Job.{Pattern, start, column_of}
use Rattle.papers.specs.Key.{lists_of}
use Rattle.job_laws.specs.Passed.{Starts}
use Rattle.list_laws.proofs.UpTo.{map-up_to, length-family, family-at}
use Rattle.list_laws.proofs.Stores.{flat_append, starts_more, length-starts}
use Rattle.job_laws.proofs.Starts.{start-at, column-at, start-within}

-- ---- the lists of the columns 1 to n

module _ (A : Pattern) where
  pub lists-more : (n : ℕ) → lists_of (suc n) A ≡ lists_of n A ++ (A (suc n) ∷ [])
  unfolding lists_of
  lists-more n = map-up_to A n

  pub lists-none : lists_of 0 A ≡ []
  unfolding lists_of up_to
  lists-none = refl

  pub length-lists : (n : ℕ) → length (lists_of n A) ≡ n
  unfolding lists_of
  length-lists n = length-family A n

  -- list j of all columns is that of column j
  pub lists_at : (n k : ℕ) → k < n → get_or (lists_of n A) k [] ≡ A (suc k)
  unfolding lists_of
  lists_at n k h = family-at A n k [] h

-- ---- lists written one behind the other, and found again

starts-head : (t : ℕ) (ls : List (List ℕ)) → get_or (starts_counted_from t ls) 0 0 ≡ t
unfolding starts_counted_from
starts-head t [] = refl
starts-head t (l ∷ ls) = refl

-- the part between starts k and k + 1, counted from 0, of lists that begin behind the rows p
between : (p : List ℕ) (t : ℕ) (ls : List (List ℕ)) (k : ℕ) → length p ≡ t → k < length ls
    → (get_or (starts_counted_from t ls) (suc k) 0 ≡ get_or (starts_counted_from t ls) k 0 + length (get_or ls k []))
    × (slice (get_or (starts_counted_from t ls) k 0) (get_or (starts_counted_from t ls) (suc k) 0) (p ++ flat ls) ≡ get_or ls k [])
unfolding starts_counted_from flat
between p t [] k e h = absurd (omega arith)
between p t (l ∷ ls) zero e h =
    let s = starts-head (t + length l) ls in
    (s, rw (s, ← append_assoc p l (flat ls), take_at (p ++ l) (flat ls) (t + length l) (omega (arith, length-append p l))) (drop_at p l t e))
between p t (l ∷ ls) (suc k) e h =
    rw (← append_assoc p l (flat ls)) (between (p ++ l) (t + length l) ls k (omega (arith, length-append p l)) (omega arith))

starts-last : (t : ℕ) (ls : List (List ℕ)) → get_or (starts_counted_from t ls) (length ls) 0 ≡ t + length (flat ls)
unfolding starts_counted_from flat
starts-last t [] = omega arith
starts-last t (l ∷ ls) = let i = starts-last (t + length l) ls in omega (arith, length-append l (flat ls))

module _ (ls : List (List ℕ)) where
  -- column j of lists one behind the other is the j-th of them
  pub laid-column : (k : ℕ) → k < length ls → column_of (starts_counted_from 0 ls) (flat ls) (suc k) ≡ get_or ls k []
  laid-column k h = column-at (starts_counted_from 0 ls) (flat ls) k ∙ (between [] 0 ls k refl h).1

  pub laid-lists : lists_of (length ls) (column_of (starts_counted_from 0 ls) (flat ls)) ≡ ls
  laid-lists =
      let A = column_of (starts_counted_from 0 ls) (flat ls) in
      let e = length-lists A (length ls) in
      ext_get_or [] (lists_of (length ls) A) ls e (λ k h. let l : k < length ls = omega arith in lists_at A (length ls) k l ∙ laid-column k l)

  -- the starts of lists one behind the other pass 4
  pub laid-starts : Starts (length ls) (starts_counted_from 0 ls) (flat ls)
  laid-starts =
      record {
        long = length-starts 0 ls;
        from_zero = start-at (starts_counted_from 0 ls) 0 ∙ starts-head 0 ls;
        rising = rises;
        last = start-at (starts_counted_from 0 ls) (length ls) ∙ starts-last 0 ls ∙ omega arith;
      }
    where
      rises : (j : ℕ) → 1 ≤ j → j ≤ length ls → start (starts_counted_from 0 ls) j ≤ start (starts_counted_from 0 ls) (suc j)
      rises zero l h = absurd (omega arith)
      rises (suc k) l h = rw (start-at (starts_counted_from 0 ls) k, start-at (starts_counted_from 0 ls) (suc k)) (omega (arith, (between [] 0 ls k refl h).0))

-- ---- starts that pass 4 are those of their columns' lists, one behind the other

module _ {n : ℕ} {starts rows : List ℕ} (s : Starts n starts rows) where
  -- a column has as many rows as there are between its starts
  pub column-length : (k : ℕ) → k < n → length (column_of starts rows (suc k)) ≡ start starts (suc (suc k)) - start starts (suc k)
  unfolding column_of
  column-length k h = length-slice (start starts (suc k)) (start starts (suc (suc k))) rows (start-within s (suc (suc k)) (omega arith) (omega arith))

  -- the lists of the first k columns are the rows up to start k + 1, and their starts are the first k + 1
  rows-first : (k : ℕ) → k ≤ n → flat (lists_of k (column_of starts rows)) ≡ take (start starts (suc k)) rows
  unfolding column_of flat
  rows-first zero h = rw (lists-none (column_of starts rows), s.from_zero)
  rows-first (suc k) h =
      let a = start starts (suc k) in
      let b = start starts (suc (suc k)) in
      rw (
        lists-more (column_of starts rows) k,
        flat_append (lists_of k (column_of starts rows)) (column_of starts rows (suc k) ∷ []),
        append-nil (slice a b rows),
        rows-first k (omega arith),
      )
      (ap (λ (l : List ℕ). l ++ slice a b rows) (sym (take-take a b rows (s.rising (suc k) (omega arith) h))) ∙ take-append-drop a (take b rows))

  starts_first : (k : ℕ) → k ≤ n → starts_counted_from 0 (lists_of k (column_of starts rows)) ≡ take (suc k) starts
  unfolding starts_counted_from
  starts_first zero h =
      let q = s.long in
      rw (lists-none (column_of starts rows), take-suc starts 0 0 (omega arith), ← start-at starts 0, s.from_zero)
  starts_first (suc k) h =
      let a = start starts (suc k) in
      let b = start starts (suc (suc k)) in
      let q = s.long in
      let r = s.rising (suc k) (omega arith) h in
      let u = start-within s (suc (suc k)) (omega arith) (omega arith) in
      let ends : 0 + length (flat (lists_of k (column_of starts rows))) + length (column_of starts rows (suc k)) ≡ b =
      omega (arith, ap length (rows-first k (omega arith)), length-take-le a rows (omega arith), column-length k h) in
      rw (
        lists-more (column_of starts rows) k,
        starts_more 0 (lists_of k (column_of starts rows)) (column_of starts rows (suc k)),
        ends,
        starts_first k (omega arith),
        take-suc starts (suc k) 0 (omega arith),
        ← start-at starts (suc k),
      )

  -- the lists of all columns, one behind the other, are the rows, and their starts are the starts
  pub rows-laid : flat (lists_of n (column_of starts rows)) ≡ rows
  rows-laid = rows-first n (omega arith) ∙ take_all (start starts (suc n)) rows (let e = s.last in omega arith)

  pub starts-laid : starts_counted_from 0 (lists_of n (column_of starts rows)) ≡ starts
  starts-laid = starts_first n (omega arith) ∙ take_all (suc n) starts (let e = s.long in omega arith)
