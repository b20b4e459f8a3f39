-- Proves that a plan's lists follow one another in two slices: the list of column j in the slices is the plan's j-th list, in its range.
-- Assumes nothing.
use Prim.Native.Nat.{ℕ, suc, ◌+◌, ◌-◌, ◌<◌, ◌≤◌}
use mathlib.Core.Path.{◌≡◌, refl, sym, ap, ◌∙◌}
use mathlib.Core.List.{List, []}
use native.Mathlib.Omega.{arith}
use native.Mathlib.Numerals.{add-one}
use lib.ListN.{length, get_or, drop, set, length-take, length-drop, take-append-drop}
use lib.Seq.{get_or-take, take-take, take-add, length-take-le, sets, sets-eq, set-get_or}
use Rattle.papers.specs.Lists.{◌∈◌, Asc, head0, flat, starts_counted_from}
use Rattle.papers.specs.Job.{column_of}
use Rattle.job_laws.specs.Passed.{PassedLists}
use Rattle.list_laws.specs.Parts.{part}
use Rattle.list_laws.proofs.Stores.{length-starts}
use Rattle.job_laws.proofs.Starts.{start-at, column-at, start-within}
use Rattle.job_laws.proofs.Laid.{laid-column}
use Rattle.job_laws.proofs.Readable.{laid-pass}
use Rattle.column_laws.proofs.Columns.{column-part}
use Rattle.lists.specs.Between.{RowsBetween}
use Rattle.structure.specs.Hanging.{hanging}
use Rattle.structure.specs.Listed.{Stores}
use Rattle.check_lists.specs.Lists.{PlanLists}

module _ {n : ℕ} {lists : List (List ℕ)} {fs fr : List ℕ} (p : PlanLists n lists fs fr) where
  laid : PassedLists n (starts_counted_from 0 lists) (flat lists)
  laid = laid-pass n lists p.count p.fit

  pub starts-long : n < length fs
  starts-long = omega (arith, sym (length-take (n + 1) fs) ∙ ap length p.starts-are ∙ length-starts 0 lists, p.count)

  rows_long : length (flat lists) ≤ length fr
  rows_long = omega (arith, sym (length-take (length (flat lists)) fr) ∙ ap length p.rows_are)

  at-start : (k : ℕ) → k ≤ n → get_or fs k 0 ≡ get_or (starts_counted_from 0 lists) k 0
  at-start k h = sym (get_or-take (n + 1) fs k 0 (omega arith)) ∙ ap (λ s. get_or s k 0) p.starts-are

  pub first-start : get_or fs 0 0 ≡ 0
  first-start = at-start 0 (omega arith) ∙ sym (start-at (starts_counted_from 0 lists) 0) ∙ laid.whole.from_zero

  ends-in : (k : ℕ) → k ≤ n → get_or fs k 0 ≤ length (flat lists)
  ends-in k h = rw (at-start k h, ← start-at (starts_counted_from 0 lists) k) (start-within laid.whole (suc k) (omega arith) (omega arith))

  module _ (m : ℕ) (h : m < n) where
    pub plan-part : RowsBetween m fs fr
    plan-part =
        record {
          started = omega (arith, starts-long);
          rises = rw (
            add-one,
            at-start m (omega arith),
            at-start (suc m) (omega arith),
            ← start-at (starts_counted_from 0 lists) m,
            ← start-at (starts_counted_from 0 lists) (suc m),
          ) (laid.whole.rising (suc m) (omega arith) h);
          ends = omega (arith, ends-in (m + 1) (omega arith), rows_long);
        }

    laid-there : column_of fs fr (m + 1) ≡ column_of (starts_counted_from 0 lists) (flat lists) (suc m)
    laid-there =
        let s = at-start m (omega arith) in
        let e = at-start (suc m) (omega arith) in
        rw (add-one, column-at fs fr m, column-at (starts_counted_from 0 lists) (flat lists) m, ← s, ← e, ← p.rows_are)
        (ap (drop (get_or fs m 0)) (sym (take-take (get_or fs (suc m) 0) (length (flat lists)) fr (ends-in (suc m) h))))

    -- column m + 1 of the slices is its list
    pub plan-list : column_of fs fr (m + 1) ≡ get_or lists m []
    plan-list = laid-there ∙ laid-column lists m (omega (arith, p.count))

    -- the list is in its range
    pub plan-ascending : Asc (m + 1) (column_of fs fr (m + 1))
    plan-ascending = rw (laid-there, add-one) (laid.ascending (suc m) (omega arith) h)

    pub plan-within : (i : ℕ) → i ∈ column_of fs fr (m + 1) → i ≤ n
    plan-within = rw laid-there (laid.within (suc m) (omega arith) h)

-- ---- storing a part over itself changes nothing

sets-part : (s e : ℕ) (l : List ℕ) → s ≤ e → e ≤ length l → l ≡ sets l s (part s e l)
sets-part s e l a b =
    let k = length-take-le (e - s) (drop s l) (omega (arith, length-drop s l)) in
    let q : s + length (part s e l) ≡ e = omega arith in
    let z : s + (e - s) ≡ e = omega arith in
    sym (sets-eq (part s e l) l s (omega arith) ∙ rw (q, ← take-add s (e - s) l, z) (take-append-drop e l))

-- the list of column m + 1 is already at the place where it would be stored
module _ {m : ℕ} {fs fr : List ℕ} (q : RowsBetween m fs fr) (list : List ℕ) (is : list ≡ column_of fs fr (m + 1)) where
  taken : list ≡ part (get_or fs m 0) (get_or fs (m + 1) 0) fr
  taken = is ∙ sym (column-part fs fr m)

  ends : get_or fs (m + 1) 0 ≡ get_or fs m 0 + length list
  ends =
      let a = q.rises in
      let b = q.ends in
      omega (
        arith,
        ap length taken,
        length-take-le (get_or fs (m + 1) 0 - get_or fs m 0) (drop (get_or fs m 0) fr)
            (omega (arith, length-drop (get_or fs m 0) fr)),
      )

  pub stands-fits : length list ≤ length fr - get_or fs m 0
  stands-fits = omega (arith, ends, q.ends)

  pub stands : {n : ℕ} (p w : List ℕ) → Stores n m list p fs fr w (set p m (head0 list)) fs fr (hanging n (head0 list) (m + 1) w)
  stands p w =
      record {
        parents-are = refl;
        starts-are = rw (← ends) (sym (set-get_or fs (m + 1) 0));
        rows_are = rw taken (sets-part (get_or fs m 0) (get_or fs (m + 1) 0) fr q.rises q.ends);
        work-is = refl;
      }
