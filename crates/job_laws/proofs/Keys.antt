-- Proves that a key is read back as its job: its numbers one by one, and its lists as the job's starts and rows. So two jobs have the same
-- key exactly when they agree in size, mark, limit and pattern, and then they are the same job.
-- Assumes nothing.
use Prim.Native.Nat.{ℕ, zero, suc, ◌+◌, ◌<◌, ◌≤◌}
use mathlib.Core.Path.{◌≡◌, refl, sym, ap, ◌∙◌}
use mathlib.Core.Logic.{◌↔◌}
use mathlib.Core.List.{List, [], ◌∷◌, ◌++◌}
use native.Mathlib.Omega.{arith}
use lib.ListN.{length}
use lib.Seq.{ext_get_or}
use Rattle.papers.specs.Plan.{RowsFit, ListsFit}
use Rattle.papers.specs.Bounds.{edition, max_columns, max_mark, max_limit}
use Rattle.papers.specs.Lists.{flat, starts_counted_from}
use Rattle.papers.specs.Job.{Job, Pattern, pattern}
use Rattle.papers.specs.Numbers.{bytes_of, encode, got}
use Rattle.papers.specs.Key.{lists_numbers, lists_of, key_numbers, key_of, key_read_from}
use Rattle.job_laws.specs.Passed.{Passed}
use Rattle.bytes_laws.proofs.Fields.{got-inj, then-got, Spans, spans-cut, spans-end, field_back}
use Rattle.bytes_laws.proofs.Gaps.{lists_back}
use Rattle.bytes_laws.proofs.Plans.{end-got}
use Rattle.job_laws.specs.Same.{SameJob}
use Rattle.job_laws.proofs.Passed.{passed-below}
use Rattle.job_laws.proofs.Laid.{lists-none, lists-more, length-lists, lists_at, rows-laid, starts-laid}

-- ---- the lists of columns fit their fields

fit-more : (n j : ℕ) (ls : List (List ℕ)) (l : List ℕ) → ListsFit n j ls → RowsFit n (j + length ls) l → ListsFit n j (ls ++ (l ∷ []))
fit-more n j [] l f g = let e : j + 0 ≡ j = omega arith in (rw e at g, tt)
fit-more n j (k ∷ ls) l f g = let e : j + suc (length ls) ≡ suc j + length ls = omega arith in (f.0, fit-more n (suc j) ls l f.1 (rw e at g))

-- the rows of each column ascend above it, up to n
pub lists-fit : (n : ℕ) (A : Pattern) → ((j : ℕ) → RowsFit n j (A j)) → (k : ℕ) → ListsFit n 1 (lists_of k A)
lists-fit n A f zero = rw (lists-none A) tt
lists-fit n A f (suc k) =
    let e : 1 + length (lists_of k A) ≡ suc k = omega (arith, length-lists A k) in
    rw (lists-more A k) (fit-more n 1 (lists_of k A) (A (suc k)) (lists-fit n A f k) (rw e (f (suc k))))

-- ---- a key is read back

-- the key of a job that passes is read as that job, to its end
pub key_back : (job : Job) → Passed job → key_read_from (key_of job) ≡ got job (length (key_of job))
unfolding key_read_from key_of key_numbers encode
key_back job p =
    let lists = lists_of job.n (pattern job) in
    let below = passed-below job p in
    let few = p.few in
    let marked = p.marked in
    let limited = p.limited in
    let s = key_of job in
    let whole : Spans s 0 s (length s) = spans-end s [] s refl in
    let (a, b) = spans-cut (bytes_of edition) (encode (job.n ∷ job.mark ∷ job.limit ∷ lists_numbers 1 lists)) whole in
    let (c, d) = spans-cut (bytes_of job.n) (encode (job.mark ∷ job.limit ∷ lists_numbers 1 lists)) b in
    let (e, f) = spans-cut (bytes_of job.mark) (encode (job.limit ∷ lists_numbers 1 lists)) d in
    let (g, h) = spans-cut (bytes_of job.limit) (encode (lists_numbers 1 lists)) f in
    let fit = lists-fit job.n (pattern job) (λ j. (below.ascending j, λ i m. below.within i j m)) job.n in
    then-got _ (field_back edition edition s 0 edition _ (omega arith) (omega arith) (omega arith) a)
    ∙ then-got _ (field_back 0 max_columns s _ job.n _ (omega arith) few (omega arith) c)
    ∙ then-got _ (field_back 0 max_mark s _ job.mark _ (omega arith) marked (omega arith) e)
    ∙ then-got _ (field_back 0 max_limit s _ job.limit _ (omega arith) limited (omega arith) g)
    ∙ then-got _ (rw (length-lists (pattern job) job.n) at (lists_back job.n (omega arith) s 1 lists _ (length s) fit h))
    ∙ end-got _ s (length s) (omega arith)
    ∙ rw (rows-laid p.lists.whole, starts-laid p.lists.whole)

-- ---- two jobs with the same key

same_lists : (n : ℕ) (A B : Pattern) → ((j : ℕ) → 1 ≤ j → j ≤ n → A j ≡ B j) → lists_of n A ≡ lists_of n B
same_lists n A B h =
    let l = length-lists A n in
    let m = length-lists B n in
    ext_get_or [] (lists_of n A) (lists_of n B) (omega arith) (λ k u. let q : k < n = omega arith in lists_at A n k q ∙ h (suc k) (omega arith)
    (omega arith) ∙ sym (lists_at B n k q))

module _ (a b : Job) (pa : Passed a) (pb : Passed b) where
  -- jobs that agree in these are the same job, with the same starts and rows
  pub same-job : SameJob a b → a ≡ b
  same-job s =
      let p = pa.lists.whole in
      let q = pb.lists.whole in
      let lists : lists_of a.n (pattern a) ≡ lists_of b.n (pattern b) = same_lists a.n (pattern a) (pattern b) s.rows ∙ ap
      (λ (n : ℕ). lists_of n (pattern b)) s.columns in
      let starts : a.starts ≡ b.starts = sym (starts-laid p) ∙ ap (starts_counted_from 0) lists ∙ starts-laid q in
      let rows : a.rows ≡ b.rows = sym (rows-laid p) ∙ ap flat lists ∙ rows-laid q in
      λ i. record { n = s.columns i; starts = starts i; rows = rows i; mark = s.marks i; limit = s.limits i }

  -- two jobs have the same key exactly when they agree in n, mark, limit and the pattern rows of each column
  pub key-same-iff : (key_of a ≡ key_of b) ↔ SameJob a b
  key-same-iff =
      (λ e. agree (got-inj (sym (key_back a pa) ∙ ap key_read_from e ∙ key_back b pb)).0, λ s. ap key_of (same-job s))
    where
      agree : a ≡ b → SameJob a b
      agree e =
          record {
            columns = ap (λ (j : Job). j.n) e;
            marks = ap (λ (j : Job). j.mark) e;
            limits = ap (λ (j : Job). j.limit) e;
            rows = λ j l h. ap (λ (x : Job). pattern x j) e;
          }
