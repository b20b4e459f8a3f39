-- Proves that a key is readable exactly when it reads through to its end. The job that is read passes its tests, since its lists are in
-- their ranges, and its key has exactly these bytes. And the key of a job that passes is read as that job.
-- Assumes nothing.
use Prim.Native.Nat.{ℕ, zero, suc, ◌+◌, ◌<◌, ◌≤◌}
use mathlib.Core.Path.{◌≡◌, sym, ◌∙◌}
use mathlib.Core.Logic.{◌↔◌}
use mathlib.Core.List.{List, [], ◌∷◌, ◌++◌}
use native.Mathlib.Omega.{arith}
use lib.ListN.{length, get_or}
use Rattle.papers.specs.Plan.{RowsFit, ListsFit}
use Rattle.papers.specs.Bounds.{edition, max_columns, max_mark, max_limit}
use Rattle.papers.specs.Lists.{flat, starts_counted_from}
use Rattle.papers.specs.Job.{Job, column_of}
use Rattle.papers.specs.Numbers.{bytes_of, encode, got, field, Bytes}
use Rattle.papers.specs.Key.{lists_numbers, lists_of, key_numbers, key_of, lists_read_from, Readable, key_read_from, job_with}
use Rattle.job_laws.specs.Passed.{Passed, PassedLists}
use Rattle.bytes_laws.proofs.Fields.{got-inj, then-only, spans-both, spans-to-end, field-got, field-only}
use Rattle.bytes_laws.proofs.Gaps.{lists-only}
use Rattle.bytes_laws.proofs.Plans.{end-only}
use Rattle.bytes_laws.proofs.Reaches.{lists-reach}
use Rattle.job_laws.proofs.Passed.{passes-iff}
use Rattle.job_laws.proofs.Laid.{laid-column, laid-lists, laid-starts}
use Rattle.job_laws.proofs.Keys.{key_back}

-- the k-th of lists that fit their columns fits its column
fit_at : (n j : ℕ) (ls : List (List ℕ)) (k : ℕ) → ListsFit n j ls → k < length ls → RowsFit n (j + k) (get_or ls k [])
fit_at n j [] k f h = absurd (omega arith)
fit_at n j (l ∷ ls) zero f h = let e : j + 0 ≡ j = omega arith in rw e f.0
fit_at n j (l ∷ ls) (suc k) f h = let e : j + suc k ≡ suc j + k = omega arith in rw e (fit_at n (suc j) ls k f.1 (omega arith))

-- lists that fit, one behind the other, pass 4, 5 and 6
pub laid-pass : (n : ℕ) (ls : List (List ℕ)) → length ls ≡ n → ListsFit n 1 ls → PassedLists n (starts_counted_from 0 ls) (flat ls)
laid-pass n ls e f =
    record {
      whole = rw e at (laid-starts ls);
      ascending = λ j l h. (rows j l h).0;
      within = λ j l h. (rows j l h).1;
    }
  where
    rows : (j : ℕ) → 1 ≤ j → j ≤ n → RowsFit n j (column_of (starts_counted_from 0 ls) (flat ls) j)
    rows zero l h = absurd (omega arith)
    rows (suc k) l h =
        let u : k < length ls = omega arith in
        let q : 1 + k ≡ suc k = omega arith in
        rw (laid-column ls k u) (rw q at (fit_at n 1 ls k f u))

-- the job that is read passes its tests, and its key is exactly what was read
pub record KeyRead (key : List ℕ) (job : Job) (at : ℕ) : Type 0 where
  pub passes : Passed job
  pub whole : key_of job ≡ key
  pub end : at ≡ length key

pub key-only : (key : List ℕ) → Bytes key → (job : Job) (at : ℕ) → key_read_from key ≡ got job at → KeyRead key job at
unfolding key_read_from key_of key_numbers encode
key-only s bytes job at e =
    let (ed, to, f, t) = then-only _ (field edition edition s 0) e in
    let (n, tn, g, u) = then-only _ (field 0 max_columns s to) t in
    let (mark, tm, h, v) = then-only _ (field 0 max_mark s tn) u in
    let (limit, tl, k, w) = then-only _ (field 0 max_limit s tm) v in
    let (lists, end, l, x) = then-only _ (lists_read_from n 1 n s tl) w in
    there ed to n tn mark tm limit tl lists end f g h k l (end-only _ job s end at x)
  where
    there : (ed to n tn mark tm limit tl : ℕ) (lists : List (List ℕ)) (end : ℕ)
        → field edition edition s 0 ≡ got ed to → field 0 max_columns s to ≡ got n tn → field 0 max_mark s tn ≡ got mark tm
        → field 0 max_limit s tm ≡ got limit tl
        → lists_read_from n 1 n s tl ≡ got lists end
        → (job_with (record { n = n; mark = mark; limit = limit }) lists ≡ job) × (end ≡ at) × (length s ≤ at)
        → KeyRead s job at
    there ed to n tn mark tm limit tl lists end f g h k l (p, q, over) =
        let (c, fit, d) = lists-only n s bytes 1 n tl lists end l in
        let x = field-got edition edition s 0 ed to f in
        let z = field-got 0 max_limit s tm limit tl k in
        let r = (lists-reach n s 1 n tl lists end l).1.inside z.inside in
        let i : ed ≡ edition = let low = x.low in let high = x.high in omega arith in
        let same : lists_of n (column_of (starts_counted_from 0 lists) (flat lists)) ≡ lists = rw c at (laid-lists lists) in
        let last = encode (lists_numbers 1 lists) in
        let stands =
        spans-both (bytes_of edition) (bytes_of n ++ (bytes_of mark ++ (bytes_of limit ++ last))) (rw i at (field-only edition edition s 0 ed to bytes f))
        (spans-both (bytes_of n) (bytes_of mark ++ (bytes_of limit ++ last)) (field-only 0 max_columns s to n tn bytes g)
        (spans-both (bytes_of mark) (bytes_of limit ++ last) (field-only 0 max_mark s tn mark tm bytes h)
        (spans-both (bytes_of limit) last (field-only 0 max_limit s tm limit tl bytes k) d))) in
        rw (← p) (record {
          passes = record {
            few = (field-got 0 max_columns s to n tn g).high;
            marked = (field-got 0 max_mark s tn mark tm h).high;
            limited = z.high;
            lists = laid-pass n lists c fit;
          };
          whole = rw same (sym (spans-to-end _ stands (omega arith)));
          end = omega arith;
        })

-- a readable key reads through, as the job whose key it is
pub readable-read : (key : List ℕ) (r : Readable key) → key_read_from key ≡ got r.job (length key)
readable-read key r = rw (← r.whole) (key_back r.job ((passes-iff r.job).0 r.passes))

-- a readable key is the key of one job only
pub readable-one : (key : List ℕ) (r q : Readable key) → r.job ≡ q.job
readable-one key r q = (got-inj (sym (readable-read key r) ∙ readable-read key q)).0

-- a key is readable exactly when it reads through
pub readable-iff : (key : List ℕ) → Bytes key → Readable key ↔ ((job : Job) × (at : ℕ) × (key_read_from key ≡ got job at))
readable-iff key bytes = (
  λ r. (r.job, length key, readable-read key r),
  λ h. let k = key-only key bytes h.0 h.1 h.2 in record { job = h.0; passes = (passes-iff h.0).1 k.passes; whole = k.whole },
)
