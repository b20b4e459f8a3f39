-- Proves that the lists of columns are read back from their bytes, and that what is read are the bytes of such lists. A row is the row
-- before it plus its gap, so rows ascend up to n exactly when each gap is at least 1 and its row at most n.
-- Assumes nothing.
use Prim.Native.Nat.{ℕ, zero, suc, ◌+◌, ◌-◌, ◌*◌, ◌^◌, ◌<◌, ◌≤◌}
use mathlib.Core.Path.{◌≡◌, refl, ap, ◌∙◌}
use mathlib.Core.List.Memᴰ
use mathlib.Core.List.{List, [], ◌∷◌}
use native.Mathlib.Omega.{arith}
use lib.ListN.{length}
use Rattle.papers.specs.Bounds.{max_groups}
use Rattle.papers.specs.Lists.{◌∈◌}
use Rattle.papers.specs.Numbers.{bytes_of, encode, got, field, Bytes}
use Rattle.papers.specs.Key.{gaps_of, list_numbers, lists_numbers, rows_read_from, list_read_from, lists_read_from}
use Rattle.papers.specs.Plan.{RowsFit, ListsFit}
use Rattle.list_laws.proofs.Ascending.{asc-length}
use Rattle.bytes_laws.proofs.Numbers.{encode-append}
use Rattle.bytes_laws.proofs.Fields.{got-inj, then-got, then-only, onto-got, onto-only, Spans, spans-none, spans-both}
use Rattle.bytes_laws.proofs.Fields.{spans-cut, field-got, field-only, field_back}

rows-fit-tail : {n b x : ℕ} {xs : List ℕ} → RowsFit n b (x ∷ xs) → RowsFit n x xs
rows-fit-tail f = (f.0.1, λ i m. f.1 i (Memᴰ.tail m))

rows-fit-cons : {n b x : ℕ} {xs : List ℕ} → b < x → x ≤ n → RowsFit n x xs → RowsFit n b (x ∷ xs)
rows-fit-cons {n} {x = x} {xs = xs} l h f = ((l, f.0), within)
  where
    within : (i : ℕ) → i ∈ (x ∷ xs) → i ≤ n
    within i (Memᴰ.head e) = omega arith
    within i (Memᴰ.tail m) = f.1 i m

-- there is a gap for each row
pub length-gaps : (b : ℕ) (l : List ℕ) → length (gaps_of b l) ≡ length l
unfolding gaps_of
length-gaps b [] = refl
length-gaps b (x ∷ l) = ap suc (length-gaps x l)

-- ---- lists at a place are read

module _ (n : ℕ) (fits : n < 2 ^ (7 * max_groups)) (s : List ℕ) where
  rows_back : (b : ℕ) (l : List ℕ) (at next : ℕ) → RowsFit n b l → Spans s at (encode (gaps_of b l)) next → rows_read_from n b (length l) s at ≡ got l next
  unfolding rows_read_from gaps_of encode
  rows_back b [] at next f a = ap (got []) (let p = a.place in omega arith)
  rows_back b (x ∷ xs) at next f a =
      let (p, q) = spans-cut (bytes_of (x - b)) (encode (gaps_of x xs)) a in
      let h = f.1 x (Memᴰ.head refl) in
      let e : b + (x - b) ≡ x = omega arith in
      then-got _ (field_back 1 (n - b) s at (x - b) _ (omega arith) (omega arith) (omega arith) p)
      ∙ rw e (onto-got (x ∷ []) (rows_back x xs _ next (rows-fit-tail f) q))

  list_back : (j : ℕ) (l : List ℕ) (at next : ℕ) → RowsFit n j l → Spans s at (encode (list_numbers j l)) next → list_read_from n j s at ≡ got l next
  unfolding list_read_from list_numbers encode
  list_back j l at next f a =
      let (p, q) = spans-cut (bytes_of (length l)) (encode (gaps_of j l)) a in
      let c = asc-length n j l f.0 f.1 in
      then-got _ (field_back 0 (n - j) s at (length l) _ (omega arith) c (omega arith) p) ∙ rows_back j l _ next f q

  -- if the bytes at a place are those of lists, these lists are read
  pub lists_back : (j : ℕ) (ls : List (List ℕ)) (at next : ℕ) → ListsFit n j ls → Spans s at (encode (lists_numbers j ls)) next
      → lists_read_from n j (length ls) s at ≡ got ls next
  unfolding lists_read_from lists_numbers encode
  lists_back j [] at next f a = ap (got []) (let p = a.place in omega arith)
  lists_back j (l ∷ ls) at next f a =
      let (p, q) = spans-cut (encode (list_numbers j l)) (encode (lists_numbers (suc j) ls))
      (rw (encode-append (list_numbers j l) (lists_numbers (suc j) ls)) at a) in
      then-got _ (list_back j l at _ f.0 p) ∙ onto-got (l ∷ []) (lists_back (suc j) ls _ next f.1 q)

-- ---- lists that are read are at that place

module _ (n : ℕ) (s : List ℕ) (bytes : Bytes s) where
  rows-only : (b k at : ℕ) (l : List ℕ) (next : ℕ) → rows_read_from n b k s at ≡ got l next
      → (length l ≡ k) × RowsFit n b l × Spans s at (encode (gaps_of b l)) next
  unfolding rows_read_from gaps_of encode
  rows-only b zero at l next e = let (p, q) = got-inj e in rw (← p, ← q) (refl, (tt, λ i m. absurd (Memᴰ.not-nil m)), spans-none s at)
  rows-only b (suc k) at l next e =
      let (gap, mid, f, g) = then-only _ (field 1 (n - b) s at) e in
      let (xs, h, q) = onto-only ((b + gap) ∷ []) (rows_read_from n (b + gap) k s mid) g in
      let (c, fit, a) = rows-only (b + gap) k mid xs next h in
      let r = field-got 1 (n - b) s at gap mid f in
      let low = r.low in
      let high = r.high in
      let d : b + gap - b ≡ gap = omega arith in
      rw (← q) (
        ap suc c,
        rows-fit-cons (omega arith) (omega arith) fit,
        rw d (spans-both (bytes_of gap) (encode (gaps_of (b + gap) xs)) (field-only 1 (n - b) s at gap mid bytes f) a),
      )

  list-only : (j at : ℕ) (l : List ℕ) (next : ℕ) → list_read_from n j s at ≡ got l next → RowsFit n j l × Spans s at (encode (list_numbers j l)) next
  unfolding list_read_from list_numbers encode
  list-only j at l next e =
      let (count, mid, f, g) = then-only _ (field 0 (n - j) s at) e in
      let (c, fit, a) = rows-only j count mid l next g in
      (fit, rw c (spans-both (bytes_of count) (encode (gaps_of j l)) (field-only 0 (n - j) s at count mid bytes f) a))

  -- lists that are read fit their columns, and the bytes read are theirs
  pub lists-only : (j k at : ℕ) (ls : List (List ℕ)) (next : ℕ) → lists_read_from n j k s at ≡ got ls next
      → (length ls ≡ k) × ListsFit n j ls × Spans s at (encode (lists_numbers j ls)) next
  unfolding lists_read_from lists_numbers encode
  lists-only j zero at ls next e = let (p, q) = got-inj e in rw (← p, ← q) (refl, tt, spans-none s at)
  lists-only j (suc k) at ls next e =
      let (l, mid, f, g) = then-only _ (list_read_from n j s at) e in
      let (ms, h, q) = onto-only (l ∷ []) (lists_read_from n (suc j) k s mid) g in
      let (fit, a) = list-only j at l mid f in
      let (c, fits, b) = lists-only (suc j) k mid ms next h in
      rw (← q) (
        ap suc c,
        (fit, fits),
        rw (encode-append (list_numbers j l) (lists_numbers (suc j) ms)) (spans-both (encode (list_numbers j l)) (encode (lists_numbers (suc j) ms)) a b),
      )
