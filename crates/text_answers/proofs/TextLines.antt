-- Proves that a line of a job text reads as numbers exactly when it consists of those numbers, spelt out. So line 1 names one head at most,
-- and the row lines are those of one list of lists: the head and the lists that are read.
-- Assumes nothing.
use Prim.Native.Nat.{ℕ, zero, suc, ◌+◌, ◌^◌, ◌<◌, ◌≤◌}
use mathlib.Core.Path.{◌≡◌, refl, sym, ap, ◌∙◌}
use mathlib.Core.Logic.{◌↔◌}
use mathlib.Core.Bool.{true}
use mathlib.Core.List.Memᴰ
use mathlib.Core.List.{List, [], ◌∷◌}
use native.Mathlib.Omega.{arith}
use lib.ListN.{length, get_or}
use lib.Seq.{ext_get_or}
use borrow.Author.Tests.{eqb-true, eq-eqb}
use Rattle.papers.specs.declared.JobHead.{JobHead}
use Rattle.papers.specs.Bounds.{max_digits}
use Rattle.papers.specs.Lists.{◌∈◌}
use Rattle.papers.specs.Text.{numbers_at, Head, head_of, Spelt, HeadLine, two, three, rows_of_line, is_row_line, RowLine, RowLines, head_of_text, text_lists}
use Rattle.list_laws.proofs.Tests.{true-false}
use Rattle.list_laws.proofs.UpTo.{length-family, family-at}
use Rattle.text_laws.specs.Grammar.{All, Short}
use Rattle.text_laws.proofs.Numbers.{numbers-iff}

-- a line reads as numbers exactly when it consists of those numbers, spelt out
spelt-iff : (text : List ℕ) (q x : ℕ) (xs : List ℕ) → (numbers_at text q ≡ x ∷ xs) ↔ Spelt text q x xs
spelt-iff text q x xs = (
  λ e. let (rest, line, short) = (numbers-iff text q x xs).0 e in record { rest = rest; line = line; short = λ y m. each (x ∷ xs) short y m },
  λ s. (numbers-iff text q x xs).1 (s.rest, s.line, all (x ∷ xs) s.short),
)
  where
    each : (l : List ℕ) → All Short l → (y : ℕ) → y ∈ l → y < 10 ^ max_digits
    each [] h y m = absurd (Memᴰ.not-nil m)
    each (z ∷ zs) h y (Memᴰ.head e) = rw e h.0
    each (z ∷ zs) h y (Memᴰ.tail m) = each zs h.1 y m

    all : (l : List ℕ) → ((y : ℕ) → y ∈ l → y < 10 ^ max_digits) → All Short l
    all [] h = tt
    all (z ∷ zs) h = (h z (Memᴰ.head refl), all zs (λ y m. h y (Memᴰ.tail m)))

module _ (text : List ℕ) where
  -- ---- line 1

  -- the head of a well formed line 1 is what line 1 consists of
  pub head-fine-line : (head_of_text text).fine ≡ true → HeadLine text (head_of_text text).head
  unfolding head_of_text head_of
  head-fine-line = go (numbers_at text 1) refl
    where
      go : (l : List ℕ) → numbers_at text 1 ≡ l → (head_of l).fine ≡ true → HeadLine text (head_of l).head
      go [] q e = absurd (true-false e refl)
      go (n ∷ []) q e = absurd (true-false e refl)
      go (n ∷ limit ∷ []) q e = two ((spelt-iff text 1 n (limit ∷ [])).0 q)
      go (n ∷ limit ∷ mark ∷ []) q e = three ((spelt-iff text 1 n (limit ∷ mark ∷ [])).0 q)
      go (n ∷ limit ∷ mark ∷ x ∷ xs) q e = absurd (true-false e refl)

  -- whatever head line 1 consists of is the one that is read
  pub head-line-read : {head : JobHead} → HeadLine text head → head_of_text text ≡ record { fine = true; head = head }
  unfolding head_of_text head_of
  head-line-read (two {n = n} {limit = limit} s) = ap head_of ((spelt-iff text 1 n (limit ∷ [])).1 s)
  head-line-read (three {n = n} {limit = limit} {mark = mark} s) = ap head_of ((spelt-iff text 1 n (limit ∷ mark ∷ [])).1 s)

  -- what is said of some head of line 1 is said of the one that is read
  pub only-head : (head_of_text text).fine ≡ true → (K : JobHead → Type 0)
      → K (head_of_text text).head ↔ ((head : JobHead) × HeadLine text head × K head)
  only-head f K = (
    λ k. ((head_of_text text).head, head-fine-line f, k),
    λ (head, l, k). let e : (head_of_text text).head ≡ head = ap (λ (h : Head). h.head) (head-line-read l) in rw e k,
  )

  -- ---- a row line

  -- line q consists of a count and these rows exactly when it reads as a row line with these rows
  pub row-line-iff : (q : ℕ) (rows : List ℕ) → ((is_row_line (numbers_at text q) ≡ true) × (rows_of_line (numbers_at text q) ≡ rows)) ↔ RowLine text q rows
  unfolding is_row_line rows_of_line
  row-line-iff q rows = (λ (r, e). there (numbers_at text q) refl r e, back)
    where
      there : (l : List ℕ) → numbers_at text q ≡ l → is_row_line l ≡ true → rows_of_line l ≡ rows → RowLine text q rows
      there [] q r e = absurd (true-false r refl)
      there (count ∷ l) q r e = (spelt-iff text _ (length rows) rows).0 (rw (← e, ← eqb-true count (length l) r) q)

      back : RowLine text q rows → (is_row_line (numbers_at text q) ≡ true) × (rows_of_line (numbers_at text q) ≡ rows)
      back s = rw ((spelt-iff text q (length rows) rows).1 s) (eq-eqb (length rows) (length rows) refl, refl)

  -- ---- the row lines

  -- the lines from line q on consist of these lists exactly when each of them consists of its list
  each-line-iff : (q : ℕ) (lists : List (List ℕ))
      → RowLines text q lists ↔ ((k : ℕ) → k < length lists → RowLine text (q + k) (get_or lists k []))
  each-line-iff q [] = (λ h k l. absurd (omega arith), λ h. tt)
  each-line-iff q (l ∷ ls) = go (each-line-iff (suc q) ls)
    where
      Each : ℕ → List (List ℕ) → Type 0
      Each q lists = (k : ℕ) → k < length lists → RowLine text (q + k) (get_or lists k [])

      none-on : q + 0 ≡ q
      none-on = omega arith

      one_on : (k : ℕ) → q + suc k ≡ suc q + k
      one_on k = omega arith

      go : RowLines text (suc q) ls ↔ Each (suc q) ls → RowLines text q (l ∷ ls) ↔ Each q (l ∷ ls)
      go ih = (there, λ h. (rw none-on at (h 0 (omega arith)), ih.1 (λ k b. rw (one_on k) at (h (suc k) (omega arith)))))
        where
          there : RowLines text q (l ∷ ls) → Each q (l ∷ ls)
          there h zero b = rw none-on h.0
          there h (suc k) b = rw (one_on k) (ih.0 h.1 k (omega arith))

  -- the row lines consist of these lists exactly when all of them read as row lines, and these lists are what is read
  pub row-lines-iff : (j : ℕ) (lists : List (List ℕ)) → length lists ≡ j
      → RowLines text 2 lists ↔ (((k : ℕ) → 1 ≤ k → k ≤ j → is_row_line (numbers_at text (suc k)) ≡ true) × (lists ≡ text_lists text j))
  unfolding text_lists
  row-lines-iff j lists e = (there, back)
    where
      there : RowLines text 2 lists → ((k : ℕ) → 1 ≤ k → k ≤ j → is_row_line (numbers_at text (suc k)) ≡ true) × (lists ≡ text_lists text j)
      there h = (
        fine,
        ext_get_or [] lists (text_lists text j) (e ∙ sym (length-family _ j)) (λ k b. sym (family-at _ j k [] (omega arith) ∙ (read k b).1)),
      )
        where
          read : (k : ℕ) → k < length lists
              → (is_row_line (numbers_at text (suc (suc k))) ≡ true) × (rows_of_line (numbers_at text (suc (suc k))) ≡ get_or lists k [])
          read k b =
              let two-on : 2 + k ≡ suc (suc k) = omega arith in
              (row-line-iff (suc (suc k)) (get_or lists k [])).1 (rw two-on at ((each-line-iff 2 lists).0 h k b))

          fine : (k : ℕ) → 1 ≤ k → k ≤ j → is_row_line (numbers_at text (suc k)) ≡ true
          fine zero l u = absurd (omega arith)
          fine (suc k) l u = (read k (omega arith)).0

      back : ((k : ℕ) → 1 ≤ k → k ≤ j → is_row_line (numbers_at text (suc k)) ≡ true) × (lists ≡ text_lists text j) → RowLines text 2 lists
      back (fine, same) = (each-line-iff 2 lists).1 each
        where
          each : (k : ℕ) → k < length lists → RowLine text (2 + k) (get_or lists k [])
          each k b =
              let two-on : 2 + k ≡ suc (suc k) = omega arith in
              let at : get_or lists k [] ≡ rows_of_line (numbers_at text (suc (suc k))) =
              ap (λ (ls : List (List ℕ)). get_or ls k []) same ∙ family-at _ j k [] (omega arith) in
              rw two-on ((row-line-iff (suc (suc k)) (get_or lists k [])).0 (fine (suc k) (omega arith) (omega arith), sym at))
